-- The words of the contracts.
pub mod NodeStands
pub mod Past
pub mod Fragments
pub mod Questions
