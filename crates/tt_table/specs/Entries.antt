-- What a list of entries is seen as, and what a change of it tells. The main word is `EntriesView`.
use Rattle.std.specs.Prelude.{◌≡◌, ℕ, ◌+◌, ◌≤◌, Bool, true, false, List, length, Option, Some, None}
use Rattle.mesh_base.specs.declared.client.Entry.{Entry}
use Rattle.mesh_base.specs.declared.client.Key.{Key}
use Rattle.mesh_model.specs.declared.table_change.Change.{Change}
use Rattle.mesh_model.specs.Tables.Strict.{additions, deletions}

-- entries in key order, and for how many there is room
pub record EntriesView : Type 0 where
  pub entries : List Entry
  pub capacity : ℕ

-- the key of an entry
abbrev pub entry_key : Entry → Key
entry_key entry = entry.key

-- entries are changed to these where they can be, and else stay
abbrev pub Tells : Bool → Option (List Entry) → List Entry → List Entry → Type 0
Tells true wanted old new = wanted ≡ Some new
Tells false wanted old new = (wanted ≡ None) × (new ≡ old)

-- the deletions among changes, or the additions
abbrev pub half : Bool → List Change → List Change
half true changes = deletions changes
half false changes = additions changes

-- there is room for so many more entries
abbrev pub HasRoom : ℕ → EntriesView → Type 0
HasRoom more view = length view.entries + more ≤ view.capacity
