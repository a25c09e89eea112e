-- What the methods rest on.
pub mod Meetings
pub mod LifeLemmas
pub mod BestLemmas
pub mod IvLaws
pub mod VLaws
pub mod OrigLemmas
pub mod WordLemmas
pub mod KeyOrders
pub mod LifeRows
pub mod HearingLemmas
pub mod HeardPaths
pub mod WalkLemmas
pub mod BestWalk
pub mod PutLemmas
pub mod ReaderLemmas
pub mod CameFrom
