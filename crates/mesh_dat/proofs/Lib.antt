pub mod CacheLemmas
pub mod NearLemmas
