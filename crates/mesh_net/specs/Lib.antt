-- What the contracts cite, in reading order: what a net stands for, and what its calls tell. Given,
-- Kept and Steps stand in no public clause.
pub mod Reached
pub mod Given
pub mod Kept
pub mod Watching
pub mod NetStands
pub mod Tells
pub mod Steps
