-- What the rows of tables rest on.
pub mod KnownLemmas
pub mod OgmLemmas
pub mod WayLemmas
pub mod ReplyLemmas
pub mod TickLemmas
