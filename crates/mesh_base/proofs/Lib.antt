-- The lemmas of this crate.
pub mod MacText
pub mod Pieces
pub mod AddressWords
pub mod AddressOrder
