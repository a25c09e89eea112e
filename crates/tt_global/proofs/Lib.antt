-- What the methods of `Globals` rest on.
pub mod AgainLemmas
pub mod KeyLemmas
pub mod PartLemmas
pub mod StandLemmas
pub mod SettledLemmas
pub mod CommitLemmas
pub mod PlaceLemmas
