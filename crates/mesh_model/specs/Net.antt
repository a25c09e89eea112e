-- The net: nodes that keep their logs, links between them, LANs, all frames that were ever sent,
-- and the clock. What happens is carried out in one order, from one moment to the next; the routes
-- may be watched. It stands on the rooms Packets, Scenario, Routes, Clients, Acts and Loops. The
-- main words are `Mesh`, in Mesh, `run_to`, in Runs, and the same order as a relation, `IsNext`, in
-- Next.
pub mod Happenings
pub mod Mesh
pub mod Sending
pub mod Inputs
pub mod Lans
pub mod Due
pub mod Watching
pub mod Runs
pub mod Next
pub mod Limits
