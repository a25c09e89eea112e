-- Strict application of changes to a table: the deletions in their order, each of an entry that is
-- there with its flags, then the additions in their order, each of a key that is absent. The value
-- is the table after them all, or the first change that fails. The main word is `apply_strictly`.
use Rattle.std.specs.Prelude.{◌==◌, not, List, [], ◌∷◌, ◌++◌, filter, if◌then◌else◌, Option, Some, None, option_map, ok_or, Result, Ok, Err}
use Rattle.std.specs.Ordering.{match_ordering}
use Rattle.mesh_base.specs.KeyOrder.{key_order}
use Rattle.mesh_base.specs.declared.client.Entry.{Entry}
use Rattle.mesh_model.specs.declared.table_change.Change.{Change}

-- a table in key order without an entry, where the entry is there with its flags
abbrev pub without_entry : Entry → List Entry → Option (List Entry)
without_entry entry [] = None
without_entry entry (first ∷ rest) = match_ordering (key_order entry.key first.key)
    None
    (if entry.flags == first.flags then Some rest else None)
    (option_map (λ others. first ∷ others) (without_entry entry rest))

-- a table in key order with one more entry, where the key is absent
abbrev pub with_entry : Entry → List Entry → Option (List Entry)
with_entry entry [] = Some (entry ∷ [])
with_entry entry (first ∷ rest) = match_ordering (key_order entry.key first.key)
    (Some (entry ∷ first ∷ rest))
    None
    (option_map (λ others. first ∷ others) (with_entry entry rest))

-- a table after a change, where the change is strict for it
abbrev pub change_one : Change → List Entry → Option (List Entry)
change_one change table =
    if change.del then without_entry change.entry table else with_entry change.entry table

-- what follows on a table, where there is one
abbrev pub and_then : {T U E : Type 0} → (T → Result U E) → Result T E → Result U E
and_then next (Ok table) = next table
and_then next (Err failed) = Err failed

-- a table after changes in their order, or the first that fails
abbrev pub change_each : List Change → List Entry → Result (List Entry) Change
change_each [] table = Ok table
change_each (change ∷ changes) table =
    and_then (change_each changes) (ok_or (change_one change table) change)

-- the deletions among changes
abbrev pub deletions : List Change → List Change
deletions changes = filter (λ change. change.del) changes

-- the additions among changes
abbrev pub additions : List Change → List Change
additions changes = filter (λ change. not change.del) changes

-- a table after changes, deletions first, or the first change that fails
abbrev pub apply_strictly : List Entry → List Change → Result (List Entry) Change
apply_strictly table changes = change_each (deletions changes ++ additions changes) table
