-- Tables of clients: their checksums, what changes one table into another, and strict application;
-- then what a node makes of what it hears of another's table, what it knows of it, and what it
-- answers for it. A table is its list of entries in key order. The main words are `checksums`, in
-- Sums, `changeset`, in Changes, `apply_strictly`, in Strict, and `known_by`, in Known. A large table
-- goes in pieces, in Pieces, which are gathered, in Gathered.
pub mod Checksum
pub mod Sums
pub mod Changes
pub mod Strict
pub mod Versions
pub mod Differences
pub mod Pieces
pub mod Gathered
pub mod Judging
pub mod Known
pub mod Answers
