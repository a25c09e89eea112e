-- What the rows of the fact store rest on.
pub mod Underway
pub mod PrimaryLemmas
pub mod KeptLemmas
pub mod SendLemmas
pub mod ListLemmas
pub mod RoundLemmas
