-- What the contracts cite: first what callers see, then inner words.
pub mod Claims
pub mod Holds
