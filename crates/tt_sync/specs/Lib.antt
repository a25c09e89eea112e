-- What the contracts cite.
pub mod Sync
pub mod Answers
