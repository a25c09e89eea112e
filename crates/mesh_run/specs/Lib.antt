-- The words of this crate's contracts. What the contract of `batmesh` cites is in Outcome.
pub mod Outcome
pub mod Inner
