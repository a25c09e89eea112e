-- The table machine of one originator: what it committed, what was ever said of its tables, and
-- what each node was told and holds; the moves by which this changes, in any order and as often as
-- one likes; and what stays true. Whatever a network loses, repeats or delivers late is a list of
-- these moves. The first word to read is `World`, the main ones are `Move` and `HeldAreCommits`.
pub mod Pieces
pub mod World
pub mod Moves
pub mod Agreement
pub mod MachineLaws
pub mod Misled
