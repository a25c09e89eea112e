-- The words of the contracts, in reading order.
pub mod BridgeStands
