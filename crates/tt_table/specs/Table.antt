-- What a table is seen as: its entries in key order, and the room for changes, its spare; what it
-- becomes by changes, and what each refusal of them says of their strict application. The main
-- words are `Becomes` and `HasCause`.
use Rattle.std.specs.Prelude.{◌≡◌, ℕ, ◌-◌, min, false, List, length, Result, Ok, Err, IsErrAnd, ⊤}
use Rattle.mesh_base.specs.declared.client.Entry.{Entry}
use Rattle.mesh_model.specs.Tables.Changes.{deletion}
use Rattle.mesh_model.specs.declared.table_change.Change.{Change}
use Rattle.tt_table.specs.Entries.{EntriesView}
use Rattle.tt_table.specs.Sums.{SumsView}
use Rattle.tt_table.specs.declared.failure.ApplyErr.{ApplyErr}
use Rattle.tt_table.specs.declared.failure.ApplyErr.TheVariants.{Missing, Present, Memory}

-- entries in key order, and the number of changes for which there is room
pub record TableView : Type 0 where
  pub entries : List Entry
  pub spare : ℕ

-- for how many changes there is room, each of which may need an entry and a row
abbrev pub spare_of : EntriesView → SumsView → ℕ
spare_of entries sums =
    min (entries.capacity - length entries.entries) (sums.capacity - length sums.rows)

-- entries become what was wanted, or stay where the wanted changes fail at this one
abbrev pub Becomes : Result (Unit {0}) Change → Result (List Entry) Change
    → List Entry → List Entry → Type 0
Becomes (Ok done) wanted old new = wanted ≡ Ok new
Becomes (Err change) wanted old new = (wanted ≡ Err change) × (new ≡ old)

-- the cause of a refusal: a deletion of this entry is the first change that fails, or an addition
-- of this key is; want of memory is free
abbrev pub HasCause : Result (List Entry) Change → ApplyErr → Type 0
HasCause applied (Missing entry) = applied ≡ Err (deletion entry)
HasCause applied (Present key) =
    IsErrAnd applied (λ change. (change.del ≡ false) × (change.entry.key ≡ key))
HasCause applied Memory = ⊤
