-- What a node knows of the others: what its routing algorithm was given, what came for the tables
-- of originators, the calls on its marks, its probes, the broadcasts that it took, the parts of
-- packets that were cut, and what was offered to it, each a list of what came, newest first. It is
-- a fold of the node's log, packet by packet. The main words are `knowledge`, in Steps,
-- `addressee`, in Addressee, `receivers`, in Offers, and `picture_by`, in Pictured.
pub mod Told
pub mod Served
pub mod Known
pub mod Addressee
pub mod Offers
pub mod Pairs
pub mod FactStore
pub mod OwnPictures
pub mod PutTogether
pub mod Steps
pub mod Pictured
