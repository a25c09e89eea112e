-- The words of the contracts, in reading order.
pub mod FrameRows
pub mod GroupRows
pub mod LanRows
pub mod Sightings
