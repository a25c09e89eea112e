-- What the laws of lines rest on: what a run adds to what is printed, how it may be cut, and the few
-- ways in which a command ends.
pub mod Courses
pub mod Passing
pub mod Reached
pub mod Ways
pub mod Printing
pub mod Choosing
pub mod Keeping
pub mod Quiet
pub mod FieldsRead
pub mod ReadRange
pub mod Slices
pub mod KeptLinks
