-- What the proofs rest on.
pub mod KindLemmas
pub mod UnfinishedLemmas
pub mod FrontLemmas
pub mod ProgressLemmas
pub mod FaultLemmas
pub mod PieceLemmas
pub mod EndLemmas
pub mod ReadLemmas
pub mod InputLemmas
pub mod TimeLemmas
pub mod SliceLemmas
pub mod GeneratedLemmas
pub mod RightlyLemmas
pub mod StageLemmas
pub mod RouteLemmas
pub mod CarrierLemmas
