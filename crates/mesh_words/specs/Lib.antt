-- What the contracts cite.
pub mod Words
