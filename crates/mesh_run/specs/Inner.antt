-- Words of the functions behind `batmesh`, from one line to the whole input. No public clause cites
-- this room.
pub mod Faults
pub mod Kinds
pub mod Lines
pub mod Progress
pub mod Reading
pub mod Generation
