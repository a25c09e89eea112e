-- The words of this crate's contracts. What the layer above cites is in SceneStands, AnswersCommand,
-- StageStands, Slices and Counts.
pub mod SceneStands
pub mod AnswersCommand
pub mod StageStands
pub mod Slices
pub mod Counts
pub mod Inner
