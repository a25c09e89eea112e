-- The checksums of a table, a number for every VLAN: the XOR of the sums of its entries in that
-- VLAN, and 0 where it has none. The sum of an entry is the CRC32C of nine bytes: the wire number
-- of the VLAN in two bytes, the higher first, the flags that count, and the address. The main word
-- is `checksums`; `sums_of` lists those of the VLANs that have entries.
use Rattle.std.specs.Prelude.{ℕ, ◌==◌, Bool, List, [], ◌∷◌, ◌++◌, map, filter, bit_xor, if◌then◌else◌}
use Rattle.std.specs.Int.{bytes_high_first}
use Rattle.std.specs.Ordering.{nat_cmp, match_ordering}
use Rattle.mesh_base.specs.declared.client.Entry.{Entry}
use Rattle.mesh_base.specs.declared.client.Vid.{Vid}
use Rattle.mesh_model.specs.Packets.Bodies.{VlanSum, client_flags}
use Rattle.mesh_model.specs.Tables.Checksum.{crc32c}

-- the nine bytes of an entry of which its sum is taken
abbrev pub summed_bytes : Entry → List ℕ
summed_bytes entry =
    bytes_high_first 2 entry.key.vid.0 ++ client_flags entry.flags ∷ entry.key.mac.0

-- the sum of an entry
unfoldable pub entry_sum : Entry → ℕ
entry_sum entry = crc32c (summed_bytes entry)

-- whether an entry is in a VLAN
abbrev pub is_in_vlan : Vid → Entry → Bool
is_in_vlan vid entry = vid.0 == entry.key.vid.0

-- the entries of a table in a VLAN
abbrev pub entries_in : Vid → List Entry → List Entry
entries_in vid table = filter (is_in_vlan vid) table

-- the XOR of numbers, 0 of none
abbrev pub xor_of : List ℕ → ℕ
xor_of [] = 0
xor_of (number ∷ numbers) = bit_xor number (xor_of numbers)

-- the checksum of each VLAN
abbrev pub checksums : List Entry → Vid → ℕ
checksums table vid = xor_of (map entry_sum (entries_in vid table))

-- VLANs with one more, by wire number and each once
abbrev pub insert_vlan : Vid → List Vid → List Vid
insert_vlan vid [] = vid ∷ []
insert_vlan vid (first ∷ rest) =
    match_ordering (nat_cmp vid.0 first.0) (vid ∷ first ∷ rest) (first ∷ rest)
    (first ∷ insert_vlan vid rest)

-- the VLANs that have entries, by wire number and each once
abbrev pub vlans_of : List Entry → List Vid
vlans_of [] = []
vlans_of (entry ∷ table) = insert_vlan entry.key.vid (vlans_of table)

-- the VLANs that have entries, each with its checksum, by wire number
abbrev pub sums_of : List Entry → List VlanSum
sums_of table = map (λ vid. record { vid = vid; sum = checksums table vid }) (vlans_of table)

-- the checksum of a VLAN in a list of sums, 0 where the VLAN isn't named
abbrev pub sum_at : List VlanSum → Vid → ℕ
sum_at [] vid = 0
sum_at (first ∷ rest) vid = if vid.0 == first.vid.0 then first.sum else sum_at rest vid

-- a list of sums by wire number, with the checksum of a VLAN set
abbrev pub with_sum : VlanSum → List VlanSum → List VlanSum
with_sum given [] = given ∷ []
with_sum given (first ∷ rest) =
    match_ordering (nat_cmp given.vid.0 first.vid.0) (given ∷ first ∷ rest) (given ∷ rest)
    (first ∷ with_sum given rest)
