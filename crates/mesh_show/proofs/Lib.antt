-- What the proofs rest on.
pub mod RowLemmas
pub mod KnownLemmas
pub mod TableLemmas
