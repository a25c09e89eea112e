-- Pieces of a table, put together in order. The main word is `put_together`.
unfoldable pub use Rattle.mesh_model.specs.Tables.Pieces.{piece_size, piece_count}
pub use Rattle.mesh_model.specs.Tables.Pieces.{piece, places}
use Rattle.std.specs.Prelude.{ℕ, List, flat_map}
use Rattle.mesh_model.specs.declared.table_change.Change.{Change}

-- the records of so many pieces, put together in order
abbrev pub put_together : ℕ → (ℕ → List Change) → List Change
put_together count pieces = flat_map pieces (places count)
