-- The words of this crate's contracts. What the layers above cite is in IvStands, VStands and
-- Shown.
pub mod IvStands
pub mod VStands
pub mod Shown
pub mod Inner
