-- What the steps of reading and writing leave. No public clause cites this module.
pub mod Reading
pub mod Writing
