-- What the handing over rests on.
pub mod CutLemmas
pub mod HandLemmas
