-- What the contracts cite: first what callers see, then inner words.
pub mod Globals
pub mod Kept
pub mod Lent
