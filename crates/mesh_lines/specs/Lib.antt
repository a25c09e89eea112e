-- The text that a run prints, read back: its lines are those of what was printed, each line tells
-- its kind and its fields, and so the laws of tables and frames hold of the text.
pub mod LineWords
pub mod ItemLines
pub mod LineSources
pub mod PlainLines
pub mod TableText
pub mod FrameText
pub mod AliasText
pub mod LineFields
pub mod TextLaws
