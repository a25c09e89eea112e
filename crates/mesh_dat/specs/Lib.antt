-- What the contracts cite: first what callers see, then inner words.
pub mod Cache
pub mod Candidates
