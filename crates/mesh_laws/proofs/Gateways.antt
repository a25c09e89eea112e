-- What the laws on gateways rest on.
pub mod Places
pub mod Renewals
pub mod Standing
pub mod Joining
