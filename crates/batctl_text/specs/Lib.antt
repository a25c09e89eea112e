-- What the contracts of this crate cite beside the definitions of printed text.
pub mod Inner
