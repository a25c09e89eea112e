-- What the methods of `Waiting` and `Sessions` rest on.
pub mod RankLemmas
pub mod QueueLemmas
pub mod SessionLemmas
