-- What the intakes and sinks of this crate keep, and how they answer their next call. No crate
-- above names these words.
pub mod CallPlan
pub mod Memory
pub mod Real
