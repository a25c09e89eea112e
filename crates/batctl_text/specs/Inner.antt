-- The parts of lines, and what the steps of printing leave. No public clause cites this module.
pub mod Parts
pub mod Printed
