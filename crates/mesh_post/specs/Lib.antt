-- What the contracts cite, in reading order: what waits, what is kept of a mesh, and what an act on
-- links or on a LAN does with it.
pub mod Joining
pub mod Waiting
pub mod Posting
pub mod Kept
pub mod Lanes
pub mod Sent
pub mod Refused
pub mod Inner
