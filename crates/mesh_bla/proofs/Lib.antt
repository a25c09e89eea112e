-- What the methods of `Claims` rest on.
pub mod ClaimLemmas
