-- The probes of ping and traceroute that wait for an answer at a node. The main words are `told`
-- and `probes_by`, in OpenProbes.
pub mod OpenProbes
