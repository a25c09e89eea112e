pub mod BisectLemmas
