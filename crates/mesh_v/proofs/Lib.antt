-- What the methods rest on.
pub mod RowLemmas
pub mod StandLemmas
pub mod StepLemmas
pub mod FirstLemmas
pub mod TableLemmas
pub mod KeyLemmas
