-- What a node puts when it is given something: the packets that it makes, the rows, each a
-- definition of its own, the choice of the row, the cutting of long packets, and where among the
-- acts a limit is looked at. It stands on the rooms Bridges, Clients, Commits, Fragments and
-- Knowledge. The main words are `acts_of`, in
-- Choosing, and `node_limit`, in NodeLimits.
pub mod Packing
pub mod OwnContainers
pub mod BridgeRows
pub mod GroupRows
pub mod TableRows
pub mod FrameRows
pub mod ProbeRows
pub mod ArpRows
pub mod FactRows
pub mod FragmentRows
pub mod Rows
pub mod Cuts
pub mod Choosing
pub mod NodeLimits
