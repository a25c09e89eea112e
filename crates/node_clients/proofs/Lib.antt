-- What the rows of client frames rest on.
pub mod GroupLemmas
pub mod SightLemmas
pub mod LanLemmas
pub mod RoamingLemmas
pub mod OgmFrames
