-- The words of the public contracts, in reading order, then those of the laws and of the steps of
-- writing.
pub mod Arp
pub mod Facts
pub mod Messages
pub mod LentFacts
pub mod Parts
pub mod Laws
pub mod Writing
