-- A node's settings and its log, what of it is since the last reboot, its LAN where it is a gateway,
-- the mentions of clients in the log, who is present, and how many may be. The main word is
-- `present_clients`, in Present.
pub mod Settings
pub mod Log
pub mod LastLog
pub mod Lans
pub mod Mentions
pub mod Present
pub mod Limits
