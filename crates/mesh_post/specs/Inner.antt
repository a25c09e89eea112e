-- Words of what a mesh's links are kept in. No public clause cites this room.
pub mod Patterns
pub mod Links
