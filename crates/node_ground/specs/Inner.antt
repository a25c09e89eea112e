-- Words of the functions behind the packets. No public clause cites this room.
pub mod OwnSize
