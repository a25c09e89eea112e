-- What the contracts cite, in the order in which it is to be read.
pub mod Filling
pub mod Chunks
pub mod Frames
pub mod Store
pub mod Lending
pub mod Inner
