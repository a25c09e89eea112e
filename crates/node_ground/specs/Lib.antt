-- The words of the contracts, in reading order. Under `Inner` stand those of the functions behind
-- them.
pub mod Errors
pub mod Puts
pub mod BroadcastsStand
pub mod AsksStand
pub mod SettingsSeen
pub mod ServicesStand
pub mod KnowledgeStands
pub mod OwnStands
pub mod Ways
pub mod Sending
pub mod Reading
pub mod Tables
pub mod ServiceRows
pub mod PairRows
pub mod Inner
