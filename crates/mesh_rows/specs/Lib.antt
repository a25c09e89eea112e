-- What is said of a worked scenario, of bytes that are decoded, of a scenario with links, and of
-- small tables.
pub mod Rows
pub mod DecodeRows
pub mod NetRows
pub mod NetLines
pub mod LanLines
pub mod ServingLines
pub mod AlgorithmLines
pub mod TableRows
pub mod CommitRows
-- A large table that goes in parts.
pub mod PartRows
-- What is said of a worked scenario, of bytes that are decoded, and of a single line.
pub mod LineRows
pub mod RouteRows
pub mod ThroughputRows
-- A node that reboots, and what others hear of it.
pub mod RestartRows
-- What is said of a worked scenario, of bytes that are decoded, and of calls that are written out.
pub mod CallRows
pub mod ContainerRows
pub mod EventRows
pub mod WordRows
-- Claims, services, and the frames that tell of them.
pub mod ServiceRows
pub mod PictureRows
-- A packet that is cut, and its parts as they come.
pub mod FragmentRows
-- Routes that lines tell of.
pub mod LoopRows
pub mod WatchRows
