-- What the contracts cite: first what callers see, then the laws, then inner words.
pub mod Watch
pub mod Laws
pub mod Changed
pub mod Walks
