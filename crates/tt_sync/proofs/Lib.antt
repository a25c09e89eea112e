-- What the methods of `Sync` rest on.
pub mod SyncLemmas
pub mod AnswerLemmas
pub mod CarryLemmas
