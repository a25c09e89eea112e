-- A full answer carries a table in pieces: piece i of n has the entries from place 1,024 * i on, at
-- most 1,024 of them, as additions. n is the number of entries divided by 1,024, rounded up, and at
-- least 1, so that an empty table is one empty piece. A table within the limit on clients has at
-- most 4. The main words are `piece_count` and `piece`.
use Rattle.std.specs.Prelude.{ℕ, ◌+◌, ◌*◌, ◌/◌, max, List, length, take, drop, map}
use Rattle.std.specs.List.{range_with_len}
use Rattle.mesh_base.specs.declared.client.Entry.{Entry}
use Rattle.mesh_model.specs.declared.table_change.Change.{Change}
use Rattle.mesh_model.specs.Tables.Changes.{addition}

-- how many entries a piece has at most
unfoldable pub piece_size : ℕ
piece_size = 1024

-- the most pieces that are put together
abbrev pub most_pieces : ℕ
most_pieces = 4

-- how many pieces a table has, or a list of as many records
unfoldable pub piece_count : {X : Type 0} → List X → ℕ
piece_count table = max 1 ((length table + 1023) / 1024)

-- of a list the items of its piece at a place
abbrev pub piece_at : {X : Type 0} → ℕ → List X → List X
piece_at place items = take piece_size (drop (place * piece_size) items)

-- the records of a table's piece at a place
abbrev pub piece : ℕ → List Entry → List Change
piece place table = map addition (piece_at place table)

-- the places of so many pieces
abbrev pub places : ℕ → List ℕ
places count = range_with_len 0 count
