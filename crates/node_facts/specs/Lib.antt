-- The words of the steps. No public clause cites them.
pub mod Messages
pub mod PrimaryRows
pub mod Pushes
