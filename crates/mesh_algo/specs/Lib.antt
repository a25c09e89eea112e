-- What the contracts cite.
pub mod AlgoLaws
pub mod Words
pub mod WordBack
pub mod Pairs
pub mod LifeRows
pub mod Walk
pub mod Writing
