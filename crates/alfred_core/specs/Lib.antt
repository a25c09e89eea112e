-- What the contracts cite: first what callers see, then inner words.
pub mod Facts
pub mod Transactions
pub mod Kept
