-- The words that the contracts of this crate cite, in reading order.
pub mod Walk
pub mod Translation
pub mod Laws
