-- Packets that are too long for a link: how one is cut into fragments, and how the fragments that
-- come are put together. The main words are `fragments`, in Cutting, and `assembly` and
-- `made_whole`, in Assembly.
pub mod Cutting
pub mod Assembly
