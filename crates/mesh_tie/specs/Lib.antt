-- The plain run's mesh beside the table machine: what is asked of a routing algorithm, the steps of
-- a mesh, what its frames say of an originator's tables, how a mesh is tied to a world of the
-- machine, and the laws that follow for every mesh that is reached; what is cut and put together, and what pictures tell.
pub mod Sources
pub mod Steps
pub mod Originators
pub mod Sayings
pub mod Tie
pub mod TieLaws
pub mod ByTable
pub mod CutPackets
pub mod Carried
pub mod PlainRuns
pub mod ShownPictures
pub mod AliasesSeen
pub mod AliasesStand
pub mod FullAnswers
pub mod ShownTables
pub mod LinesByTable
pub mod NetTables
