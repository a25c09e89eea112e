-- What the kept offers rest on.
pub mod OfferLemmas
