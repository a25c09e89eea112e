pub mod FactLemmas
pub mod PartLemmas
pub mod Rewritten
pub mod TransactionLemmas
pub mod SentOn
