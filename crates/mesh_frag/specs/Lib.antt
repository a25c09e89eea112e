-- What the contracts cite: first what callers see, then the laws, then inner words.
pub mod Frags
pub mod Laws
pub mod Kept
