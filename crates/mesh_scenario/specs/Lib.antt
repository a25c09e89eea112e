-- The words that the contracts of this crate cite, in reading order.
pub mod LineErr
pub mod Inner
