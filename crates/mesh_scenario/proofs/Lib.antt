-- The lemmas of this crate.
pub mod GatewayLemmas
pub mod IpLemmas
pub mod OptionsLemmas
pub mod SpellLemmas
pub mod TermsLemmas
pub mod OffsetLemmas
pub mod WordsLemmas
