-- What the contracts cite.
pub mod Bisect
