-- The laws of containers and bodies: what is spelled is read back, and bytes are one list of
-- containers only.
use Rattle.std.specs.Prelude.{◌≡◌, ℕ, ◌^◌, ◌<◌, Bool, List, [], length, All, Some}
use Rattle.mesh_base.specs.declared.client.Key.{Key}
use Rattle.mesh_base.specs.declared.client.Entry.{Entry}
use Rattle.mesh_model.specs.Packets.Containers.{Container, FitsLength, AreContainers, containers_spelling, containers_of, rest_of}
use Rattle.mesh_model.specs.Packets.Bodies.{VlanSum, TtData, TtPart, Bandwidth, part_of_body, roaming_of_body, gateway_of_body, multicast_of_body, client_flags, change_of, entry_of_change, is_deletion}
use Rattle.mesh_model.specs.Packets.Contents.{table_of_body}
use Rattle.mesh_model.specs.Packets.BodySpellings.{tt_spelling, tt_part_spelling, key_spelling, gateway_spelling, multicast_spelling}

-- spelled containers are these containers again, and nothing is left
abbrev pub ContainersAreReadBack : Type 0
ContainersAreReadBack = (containers : List Container) → All FitsLength containers
    → (containers_of (containers_spelling containers) ≡ containers)
    × (rest_of (containers_spelling containers) ≡ [])

-- bytes are the containers that are computed from them, and what is left
abbrev pub ContainersAreFound : Type 0
ContainersAreFound = (bytes : List ℕ) → All (λ byte. byte < 2 ^ 8) bytes
    → AreContainers bytes (containers_of bytes) (rest_of bytes)

-- bytes are no two lists of containers
abbrev pub ContainersAreUnique : Type 0
ContainersAreUnique =
    (bytes : List ℕ) (containers others : List Container) (rest other_rest : List ℕ)
    → AreContainers bytes containers rest → AreContainers bytes others other_rest
    → (containers ≡ others) × (rest ≡ other_rest)

-- a client whose address has six bytes, and whose VLAN's wire number fits two
pub record FitsKey (key : Key) : Type 0 where
  pub address : length key.mac.0 ≡ 6
  pub vid : key.vid.0 < 2 ^ 16

-- a VLAN whose wire number fits two bytes, and its checksum four
pub record FitsVlan (vlan : VlanSum) : Type 0 where
  pub vid : vlan.vid.0 < 2 ^ 16
  pub sum : vlan.sum < 2 ^ 32

-- a translation table whose fields fit their bytes
pub record FitsTable (table : TtData) : Type 0 where
  pub vlans : length table.vlans < 2 ^ 16
  pub each_vlan : All FitsVlan table.vlans
  pub each_change : All (λ change. FitsKey change.key) table.changes

-- a spelled translation table is read back, field by field
abbrev pub TableIsReadBack : Type 0
TableIsReadBack =
    (table : TtData) → FitsTable table → table_of_body (tt_spelling table) ≡ Some table

-- a spelled part of a translation table is read back, whose number and count fit two bytes each
abbrev pub PartIsReadBack : Type 0
PartIsReadBack = (part : TtPart) → FitsTable part.table → part.number < 2 ^ 16 →
    part.count < 2 ^ 16 → part_of_body (tt_part_spelling part) ≡ Some part

-- a record for a client tells the client, with the flags that it keeps, and whether it is gone
abbrev pub RecordIsReadBack : Type 0
RecordIsReadBack = (entry : Entry) (is_gone : Bool)
    → (entry_of_change (change_of entry is_gone)
    ≡ record entry { flags = client_flags entry.flags })
    × (is_deletion (change_of entry is_gone) ≡ is_gone)

-- the other spelled bodies are read back
pub record BodiesAreReadBack : Type 0 where
  pub roaming : (key : Key) → FitsKey key → roaming_of_body (key_spelling key) ≡ Some key
  pub gateway : (bandwidth : Bandwidth) → bandwidth.download < 2 ^ 32 → bandwidth.upload < 2 ^ 32
      → gateway_of_body (gateway_spelling bandwidth) ≡ Some bandwidth
  pub multicast : (flags : ℕ) → multicast_of_body (multicast_spelling flags) ≡ Some flags
