pub mod ContainersLemmas
pub mod PiecesLemmas
pub mod SpellingLemmas
pub mod FindingLemmas
pub mod TableLemmas
pub mod FlawLemmas
