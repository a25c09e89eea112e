-- The definitions, in rooms. A room imports only from the rooms before it and from itself.
pub mod Packets
pub mod Scenario
pub mod Routes
pub mod Fragments
pub mod Bridges
pub mod Clients
pub mod Tables
pub mod Commits
pub mod Marks
pub mod Probes
pub mod Services
pub mod Knowledge
pub mod Text
pub mod Acts
pub mod Loops
pub mod Net
pub mod Run
