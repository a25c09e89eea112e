-- What the proofs rest on.
pub mod NetLemmas
pub mod PlaceLemmas
pub mod NameLemmas
pub mod PrintLemmas
pub mod TopologyLemmas
pub mod GivenLemmas
pub mod TableLemmas
pub mod SessionLemmas
pub mod ApartLemmas
pub mod PassLemmas
pub mod CountLemmas
pub mod LanLemmas
