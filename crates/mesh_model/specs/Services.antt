-- What nodes do for one another beside their tables, each asked of the list of what came, newest
-- first: the choice of a gateway, the receivers of a group, the pairs of the ARP table and the nodes
-- that keep them, the facts of the fact store, the picture that a node puts there, its primaries,
-- and the transactions in which facts are sent. A pair, a fact and a primary are each the last
-- mention that is younger than its age.
pub mod Gateways
pub mod Groups
pub mod ArpTable
pub mod Facts
pub mod Pictures
pub mod Primaries
pub mod Transactions
pub mod Parts
