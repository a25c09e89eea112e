-- The scenario language: the lines of an input, their words, what each word may be, and the command
-- that a line gives. The main word is `command_of_line`, in Commands.
pub mod Lines
pub mod Words
pub mod Terms
pub mod Fields
pub mod Readings
pub mod LinkOptions
pub mod NetForms
pub mod ClientForms
pub mod SettingForms
pub mod AlfredForms
pub mod Commands
pub mod Halt
