-- What the contracts cite: first what callers see, then inner words.
pub mod Clients
pub mod Roster
pub mod Moments
pub mod Runs
pub mod Journal
pub mod AliasSearch
pub mod Locals
pub mod Announcing
pub mod Limits
pub mod Vlans
pub mod CommitLaws
