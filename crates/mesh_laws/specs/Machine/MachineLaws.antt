-- What stays true of the table machine whatever moves are made, while no two commits are an alias.
-- The main word is `HeldAreCommits`.
use Rattle.std.specs.Prelude.{◌≡◌, ℕ, ◌≤◌, List, [], ◌∷◌, length, map, replicate, Some}
use Rattle.mesh_base.specs.declared.client.Entry.{Entry}
use Rattle.mesh_model.specs.Tables.Changes.{addition}
use Rattle.mesh_model.specs.Tables.Versions.{Version}
use Rattle.mesh_laws.specs.Machine.Pieces.{piece, piece_count, put_together}
use Rattle.mesh_laws.specs.Machine.World.{World, Saying, Told, start, WasSaid, IsCommit, commit_numbered}
use Rattle.mesh_laws.specs.Machine.Moves.{Reaches}
use Rattle.mesh_laws.specs.Machine.Agreement.{HasNoAlias, AreOf, Agrees, IsAgreed}

-- the pieces of a table, put together, are the table
abbrev pub PiecesMakeTable : Type 0
PiecesMakeTable = (table : List Entry) →
    put_together (piece_count table) (λ place. piece place table) ≡ map addition table

-- a table of at most 1,024 entries is one piece
abbrev pub SmallTablesAreOnePiece : Type 0
SmallTablesAreOnePiece = (table : List Entry) → length table ≤ 1024 →
    (piece_count table ≡ 1) × (piece 0 table ≡ map addition table)

-- an empty table is one piece, 1,024 entries are one and 1,025 two, of which the second has one
abbrev pub PiecesAreCounted : Type 0
PiecesAreCounted = (entry : Entry) → (piece_count {X = Entry} [] ≡ 1)
    × (piece_count (replicate 1024 entry) ≡ 1)
    × (piece_count (replicate 1025 entry) ≡ 2)
    × (piece 1 (replicate 1025 entry) ≡ addition entry ∷ [])

-- each saying agrees with its commit
abbrev pub SayingsAgree : Type 0
SayingsAgree = (w : World) → Reaches start w → HasNoAlias w.commits →
    (saying : Saying) → WasSaid w.said saying → Agrees w.commits saying

-- each held table is a commit under the held byte
abbrev pub HeldAreCommits : Type 0
HeldAreCommits = (w : World) → Reaches start w → HasNoAlias w.commits →
    (m : ℕ) (held : Version) → (w.nodes m).held ≡ Some held → IsCommit w.commits held

-- what a node was told is the byte and sums of the commit of its number
abbrev pub ToldAreCommits : Type 0
ToldAreCommits = (w : World) → Reaches start w → HasNoAlias w.commits →
    (m : ℕ) (told : Told) → (w.nodes m).told ≡ Some told → (commit : Version)
    × (commit_numbered told.number w.commits ≡ Some commit) × AreOf commit told.byte told.sums

-- where the held byte and sums are the told ones, the held table is that of the told commit
abbrev pub AgreedHoldTheTold : Type 0
AgreedHoldTheTold = (w : World) → Reaches start w → HasNoAlias w.commits →
    (m : ℕ) (told : Told) (held : Version) →
    (w.nodes m).told ≡ Some told → (w.nodes m).held ≡ Some held → IsAgreed told held →
    (commit : Version) × (commit_numbered told.number w.commits ≡ Some commit)
    × (held.table ≡ commit.table)
