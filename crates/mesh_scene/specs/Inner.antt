-- Words of the functions behind a command and a slice. No public clause cites this room.
pub mod NetAnswers
pub mod AtNodes
pub mod AtPlaces
