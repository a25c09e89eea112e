-- The lemmas of the crate.
pub mod ChunksLemmas
pub mod WritingLemmas
pub mod StoreLemmas
