-- What sums are seen as: rows by wire number, each the checksum of a VLAN with the number of a
-- table's entries that it is made of, and for how many rows there is room. Callers ask for
-- `named_sums` alone.
use Rattle.std.specs.Prelude.{◌≡◌, ℕ, ◌+◌, ◌-◌, ◌^◌, ◌<◌, ◌≤◌, ◌==◌, bit_xor, Bool, false, List, length, map, slice_index_or, Option, Some, None, IsSome, if◌then◌else◌}
use Rattle.std.specs.List.{find}
use Rattle.std.specs.List.Sorted.{IsStrictlySortedBy}
use Rattle.std.specs.Ordering.{is_eq, nat_cmp}
use Rattle.mesh_base.specs.declared.client.Entry.{Entry}
use Rattle.mesh_base.specs.declared.client.Vid.{Vid}
use Rattle.mesh_model.specs.Packets.Bodies.{VlanSum}
use Rattle.mesh_model.specs.declared.table_change.Change.{Change}
use Rattle.mesh_model.specs.Tables.Sums.{checksums, entries_in}
use Rattle.tt_table.specs.declared.vlan_total.VlanTotal.{VlanTotal}

-- rows by wire number, and for how many there is room
pub record SumsView : Type 0 where
  pub rows : List VlanTotal
  pub capacity : ℕ

-- the wire number of a row
abbrev pub row_key : VlanTotal → ℕ
row_key row = row.vid.0

-- the VLAN of a row and its checksum
abbrev pub row_sum : VlanTotal → VlanSum
row_sum row = record { vid = row.vid; sum = row.sum }

-- the VLANs that sums name, each with its checksum, by wire number
abbrev pub named_sums : SumsView → List VlanSum
named_sums sums = map row_sum sums.rows

-- rows stand by wire number, each VLAN once
abbrev pub AreByVlan : List VlanTotal → Type 0
AreByVlan rows = IsStrictlySortedBy nat_cmp (map row_key rows)

-- the row of a VLAN among rows
abbrev pub row_at : List VlanTotal → Vid → Option VlanTotal
row_at rows vid = find (λ row. is_eq (nat_cmp vid.0 (row_key row))) rows

-- the checksum of a row, 0 of none
abbrev pub sum_of : Option VlanTotal → ℕ
sum_of None = 0
sum_of (Some row) = row.sum

-- the entries of a row, 0 of none
abbrev pub entries_of : Option VlanTotal → ℕ
entries_of None = 0
entries_of (Some row) = row.entries

-- these rows have for each VLAN the checksum of a table and the number of its entries
abbrev pub AreTotalsOf : List VlanTotal → List Entry → Type 0
AreTotalsOf rows table = (vid : Vid) → (sum_of (row_at rows vid) ≡ checksums table vid)
    × (entries_of (row_at rows vid) ≡ length (entries_in vid table))

-- each row has entries
abbrev pub HaveEntries : List VlanTotal → Type 0
HaveEntries rows =
    (vid : Vid) (row : VlanTotal) → row_at rows vid ≡ Some row → 0 < row.entries

-- each VLAN has few enough entries for so many more
abbrev pub AreFew : ℕ → List VlanTotal → Type 0
AreFew more rows = (vid : Vid) → entries_of (row_at rows vid) + more < 2 ^ 64

-- there is a row for each VLAN that had one
abbrev pub KeepNames : List VlanTotal → List VlanTotal → Type 0
KeepNames old new = (vid : Vid) → IsSome (row_at old vid) → IsSome (row_at new vid)

-- checksums and numbers of entries are as before
abbrev pub KeepTotals : List VlanTotal → List VlanTotal → Type 0
KeepTotals old new = (vid : Vid) → (sum_of (row_at new vid) ≡ sum_of (row_at old vid))
    × (entries_of (row_at new vid) ≡ entries_of (row_at old vid))

-- there is a row for the VLAN of an addition
abbrev pub IsNamed : List VlanTotal → Change → Type 0
IsNamed rows change = change.del ≡ false → IsSome (row_at rows change.entry.key.vid)

-- there is a row for the VLAN of each addition
abbrev pub AreNamed : List VlanTotal → List Change → Type 0
AreNamed rows changes = (i : ℕ) (other : Change) → i < length changes →
    IsNamed rows (slice_index_or changes i other)

-- a row after a change of an entry with this sum
abbrev pub row_after : ℕ → Bool → VlanTotal → VlanTotal
row_after sum del row = record {
  vid = row.vid;
  sum = bit_xor row.sum sum;
  entries = if del then row.entries - 1 else row.entries + 1;
}

-- the row of one VLAN became this, and the others are as before
abbrev pub HasOneChanged : Vid → (Option VlanTotal → Option VlanTotal)
    → List VlanTotal → List VlanTotal → Type 0
HasOneChanged vid change old new = (other : Vid) → row_at new other
    ≡ (if other.0 == vid.0 then change (row_at old other) else row_at old other)

-- there is room for so many more rows
abbrev pub HasRows : ℕ → SumsView → Type 0
HasRows more sums = length sums.rows + more ≤ sums.capacity
