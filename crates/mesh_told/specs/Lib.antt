-- What the contracts cite.
pub mod Told
