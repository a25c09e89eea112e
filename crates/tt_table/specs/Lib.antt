-- What the contracts cite: first what callers see, then inner words.
pub mod Table
pub mod Sums
pub mod Places
pub mod Entries
