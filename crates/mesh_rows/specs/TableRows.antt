-- Clients of small tables: two stations and a group, with and without a VLAN.
use Rattle.std.specs.Prelude.{ℕ, List, [], ◌∷◌}
use Rattle.mesh_base.specs.declared.client.Entry.{Entry}

-- the entry of an address in a VLAN, by its wire number, with flags
abbrev pub client : List ℕ → ℕ → ℕ → Entry
client mac vid flags =
    record { key = record { mac = record { 0 = mac }; vid = record { 0 = vid } }; flags = flags }

-- the address of the first station
abbrev pub first_station : List ℕ
first_station = 2 ∷ 0 ∷ 0 ∷ 0 ∷ 1 ∷ 1 ∷ []

-- the address of the second station
abbrev pub second_station : List ℕ
second_station = 2 ∷ 0 ∷ 0 ∷ 0 ∷ 1 ∷ 2 ∷ []

-- the address of the group
abbrev pub group : List ℕ
group = 1 ∷ 0 ∷ 94 ∷ 1 ∷ 2 ∷ 3 ∷ []

-- the first station, untagged
abbrev pub first : Entry
first = client first_station 0 0

-- the first station, untagged and by wireless
abbrev pub first_by_wifi : Entry
first_by_wifi = client first_station 0 16

-- the first station in the VLAN 7
abbrev pub first_tagged : Entry
first_tagged = client first_station 32775 0

-- the second station, untagged
abbrev pub second : Entry
second = client second_station 0 0

-- the group in the VLAN 4094
abbrev pub group_tagged : Entry
group_tagged = client group 36862 0
