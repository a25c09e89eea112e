-- What the contracts cite.
pub mod Sessions
