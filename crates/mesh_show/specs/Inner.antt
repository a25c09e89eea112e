-- Words of the functions behind the tables. No public clause cites this room.
pub mod Parts
