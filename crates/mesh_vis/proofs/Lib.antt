-- Proofs about pictures.
pub mod Spelled
pub mod Rows
pub mod Written
