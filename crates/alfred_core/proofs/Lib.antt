pub mod FactLemmas
pub mod MomentLemmas
pub mod PartLemmas
pub mod TransactionLemmas
