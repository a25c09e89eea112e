-- What the contracts cite.
pub mod OffersStand
