-- What the calls and the laws rest on.
pub mod CutLemmas
pub mod PartLemmas
pub mod MomentLemmas
pub mod FragLemmas
pub mod WholeLemmas
pub mod ComeBackLemmas
