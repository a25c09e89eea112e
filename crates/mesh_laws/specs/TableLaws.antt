-- Laws of tables of clients, over the order of keys: what changes do to checksums, that a changeset
-- leads from one table to the other, and that a table in key order is determined by its entries.
-- The main word is `XorsChecksums`.
use Rattle.std.specs.Prelude.{◌≡◌, ◌↔◌, List, [], map, Ok, bit_xor}
use Rattle.std.specs.List.Sorted.{IsStrictlySortedBy}
use Rattle.mesh_base.specs.KeyOrder.{key_order}
use Rattle.mesh_base.specs.declared.client.Entry.{Entry}
use Rattle.mesh_base.specs.declared.client.Key.{Key}
use Rattle.mesh_base.specs.declared.client.Vid.{Vid}
use Rattle.mesh_model.specs.declared.table_change.Change.{Change}
use Rattle.mesh_model.specs.Tables.Changes.{IsInKeyOrder, has_entry, addition, changeset, changed_entries}
use Rattle.mesh_model.specs.Tables.Strict.{apply_strictly, deletions, additions}
use Rattle.mesh_model.specs.Tables.Sums.{checksums, sum_at, sums_of}

-- where changes apply strictly, a VLAN's checksum is afterwards what it was before, xor that of the
-- changes' entries
abbrev pub XorsChecksums : Type 0
XorsChecksums = (before after : List Entry) (changes : List Change) →
    apply_strictly before changes ≡ Ok after → (vid : Vid) →
    checksums after vid ≡ bit_xor (checksums before vid) (checksums (changed_entries changes) vid)

-- two tables to which the same changes apply strictly have equal checksums afterwards only where
-- they had equal ones before
abbrev pub HadEqualChecksums : Type 0
HadEqualChecksums = (one other one_after other_after : List Entry) (changes : List Change) →
    apply_strictly one changes ≡ Ok one_after → apply_strictly other changes ≡ Ok other_after →
    checksums one_after ≡ checksums other_after → checksums one ≡ checksums other

-- where changes apply strictly to a table in key order, the table afterwards is in key order too
abbrev pub KeepsKeyOrder : Type 0
KeepsKeyOrder = (before after : List Entry) (changes : List Change) → IsInKeyOrder before →
    apply_strictly before changes ≡ Ok after → IsInKeyOrder after

-- the changeset from a table to another applies strictly to the one and makes the other
abbrev pub ChangesetLeads : Type 0
ChangesetLeads = (old new : List Entry) → IsInKeyOrder old → IsInKeyOrder new →
    apply_strictly old (changeset old new) ≡ Ok new

-- the keys that changes name
abbrev pub changed_keys : List Change → List Key
changed_keys changes = map (λ change. change.entry.key) changes

-- a changeset's deletions name keys in key order, each once, and so do its additions
abbrev pub NamesKeysOnce : Type 0
NamesKeysOnce = (old new : List Entry) → IsInKeyOrder old → IsInKeyOrder new →
    IsStrictlySortedBy key_order (changed_keys (deletions (changeset old new)))
    × IsStrictlySortedBy key_order (changed_keys (additions (changeset old new)))

-- a table in key order is determined by its entries
abbrev pub IsDeterminedByEntries : Type 0
IsDeterminedByEntries = (one other : List Entry) → IsInKeyOrder one → IsInKeyOrder other →
    ((entry : Entry) → has_entry one entry ≡ has_entry other entry) → one ≡ other

-- a table in key order, applied as additions to the empty table, is itself
abbrev pub AdditionsMakeTable : Type 0
AdditionsMakeTable = (table : List Entry) → IsInKeyOrder table →
    apply_strictly [] (map addition table) ≡ Ok table

-- the announced sums of a table are its checksums, for every VLAN
abbrev pub AnnouncesChecksums : Type 0
AnnouncesChecksums = (table : List Entry) → sum_at (sums_of table) ≡ checksums table

-- no VLAN is announced exactly where the table is empty
abbrev pub AnnouncesNoneOfEmpty : Type 0
AnnouncesNoneOfEmpty = (table : List Entry) → sums_of table ≡ [] ↔ table ≡ []
