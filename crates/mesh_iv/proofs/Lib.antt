-- What the methods rest on.
pub mod QualityLemmas
pub mod AverageLemmas
pub mod BestWalk
pub mod BestKept
pub mod RowLemmas
pub mod StandLemmas
pub mod HeardRows
pub mod StepLemmas
pub mod FirstLemmas
pub mod ValueLemmas
pub mod EchoLemmas
pub mod TableLemmas
pub mod KeyLemmas
pub mod OrigLemmas
