-- What the contracts of this crate cite.
pub mod AnswerKinds
pub mod Replies
pub mod Ticks
