-- What the contracts cite.
pub mod Rows
pub mod Tables
pub mod Origs
pub mod Answers
pub mod Came
pub mod Hears
pub mod Writing
pub mod KeyLaw
