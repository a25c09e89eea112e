-- The words of the contracts, in reading order.
pub mod PrimariesStand
pub mod RequestsStand
pub mod StoreStands
pub mod Answers
pub mod Shares
