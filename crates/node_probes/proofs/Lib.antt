-- What the rows of probes rest on.
pub mod ProbeLemmas
