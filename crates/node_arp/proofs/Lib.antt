-- What the rows of the distributed ARP table rest on.
pub mod QuestionLemmas
