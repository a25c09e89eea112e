-- The words of the public contracts and the laws, and under `Inner` those of the steps of reading
-- and writing.
pub mod Decoding
pub mod Encoding
pub mod Frames
pub mod Payloads
pub mod Lans
pub mod Laws
pub mod Inner
