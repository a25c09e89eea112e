-- What the ground of a node rests on, and what every row cites.
pub mod StandsLemmas
pub mod PutsLemmas
pub mod LeavesLemmas
pub mod BroadcastLemmas
pub mod ReadingLemmas
pub mod OfferReading
pub mod OffersLemmas
pub mod AsksLemmas
pub mod PairLemmas
pub mod HolderLemmas
pub mod OwnLemmas
pub mod PieceRooms
