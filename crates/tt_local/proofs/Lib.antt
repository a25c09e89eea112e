-- What the methods of `Locals` rest on.
pub mod OrderedMapLemmas
pub mod ClientsLemmas
pub mod MomentsLemmas
pub mod RosterLemmas
pub mod VlansLemmas
pub mod ChangesLemmas
pub mod CommitLemmas
pub mod CommittingLemmas
pub mod NumberedLemmas
pub mod RunLemmas
pub mod JournalLemmas
pub mod AliasLemmas
pub mod SearchLemmas
pub mod CommitLawLemmas
