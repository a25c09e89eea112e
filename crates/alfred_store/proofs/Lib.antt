-- What the kept store rests on.
pub mod PrimaryLemmas
pub mod RequestLemmas
pub mod StoreLemmas
