-- Lemmas on routes that were told.
pub mod NextLemmas
pub mod TableLemmas
pub mod MeetLemmas
pub mod PlaceLemmas
pub mod NodeLemmas
