-- What the laws of the net rest on: the order, what is due, what a step leaves, and runs.
pub mod Order
pub mod Members
pub mod Due
pub mod Sends
pub mod Steps
pub mod Sound
pub mod Runs
pub mod Kept
pub mod Added
pub mod ToCome
pub mod Stops
