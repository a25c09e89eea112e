-- The words that the contracts of this crate cite, in reading order.
pub mod Address
pub mod Vlan
pub mod KeyOrder
pub mod Ordered
pub mod Names
pub mod Faults
pub mod Pieces
pub mod Writes
pub mod Inner
