-- The changes that lead from one table to another: the entries of the old one that aren't in the
-- new one, as deletions in key order, then the entries of the new one that aren't in the old one,
-- as additions in key order. A client whose flags alone changed is in both. The main word is
-- `changeset`; a table stands in key order where `IsInKeyOrder`.
use Rattle.std.specs.Prelude.{◌==◌, ◌&&◌, Bool, true, false, not, ℕ, List, ◌++◌, map, filter, find, Option, option_map}
use Rattle.std.specs.List.{list_any}
use Rattle.std.specs.List.Sorted.{IsStrictlySortedBy}
use Rattle.mesh_base.specs.KeyOrder.{key_order}
use Rattle.mesh_base.specs.declared.client.Entry.{Entry}
use Rattle.mesh_base.specs.declared.client.Key.{Key}
use Rattle.mesh_model.specs.Clients.Present.{same_key}
use Rattle.mesh_model.specs.declared.table_change.Change.{Change}

-- entries stand in key order, each key once
abbrev pub IsInKeyOrder : List Entry → Type 0
IsInKeyOrder entries = IsStrictlySortedBy key_order (map (λ entry. entry.key) entries)

-- the flags of a key in a table, where the key is there
abbrev pub flags_at : List Entry → Key → Option ℕ
flags_at table key =
    option_map (λ entry. entry.flags) (find (λ entry. same_key key entry.key) table)

-- whether two entries are one: key and flags
abbrev pub same_entry : Entry → Entry → Bool
same_entry a b = same_key a.key b.key && (a.flags == b.flags)

-- whether a table has an entry, with its flags
abbrev pub has_entry : List Entry → Entry → Bool
has_entry table entry = list_any (same_entry entry) table

-- the entries of a table that another doesn't have
abbrev pub missing_from : List Entry → List Entry → List Entry
missing_from other table = filter (λ entry. not (has_entry other entry)) table

-- the change that takes an entry away
abbrev pub deletion : Entry → Change
deletion entry = record { entry = entry; del = true }

-- the change that adds an entry
abbrev pub addition : Entry → Change
addition entry = record { entry = entry; del = false }

-- the changes from an old table to a new one
abbrev pub changeset : List Entry → List Entry → List Change
changeset old new =
    map deletion (missing_from new old) ++ map addition (missing_from old new)

-- the entries that changes name
abbrev pub changed_entries : List Change → List Entry
changed_entries changes = map (λ change. change.entry) changes
