-- What the functions of a node rest on.
pub mod StoreMoments
pub mod PartMoments
pub mod CutCounts
pub mod FragmentLemmas
pub mod Underway
pub mod OgmRow
pub mod GivenLemmas
pub mod SessionLemmas
pub mod AskLemmas
