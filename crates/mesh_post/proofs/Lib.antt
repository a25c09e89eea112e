-- What the methods rest on.
pub mod LookUps
pub mod FrameLemmas
pub mod Besides
pub mod RisingLemmas
pub mod TurnLemmas
pub mod Before
pub mod QueueLemmas
pub mod PostLemmas
pub mod Chosen
pub mod Ways
pub mod Midway
pub mod ActLemmas
pub mod Back
pub mod RowLemmas
pub mod JoinLemmas
