-- How the bodies of the known containers are spelled. Numbers stand highest byte first, and
-- reserved bytes are 0. The main words are `tt_spelling`, `tt_part_spelling`, `key_spelling`, which
-- is the body of a roaming advertisement, `gateway_spelling` and `multicast_spelling`.
use Rattle.std.specs.Prelude.{ℕ, List, [], ◌∷◌, ◌++◌, length, flat_map}
use Rattle.byteorder.specs.Endian.{big_bytes}
use Rattle.mesh_base.specs.declared.client.Key.{Key}
use Rattle.mesh_model.specs.Packets.Bodies.{VlanSum, TtChange, TtData, TtPart, Bandwidth}

-- how a client is spelled, which is the body of a roaming advertisement
abbrev pub key_spelling : Key → List ℕ
key_spelling key = key.mac.0 ++ big_bytes 2 key.vid.0

-- how the head of a translation table is spelled
abbrev pub tt_head_spelling : ℕ → ℕ → ℕ → List ℕ
tt_head_spelling flags ttvn vlans = flags ∷ ttvn ∷ big_bytes 2 vlans

-- how the head of a part of a translation table is spelled
abbrev pub tt_part_head_spelling : ℕ → ℕ → ℕ → ℕ → ℕ → List ℕ
tt_part_head_spelling flags ttvn vlans number count =
    tt_head_spelling flags ttvn vlans ++ big_bytes 2 number ++ big_bytes 2 count

-- how a VLAN is spelled
abbrev pub vlan_spelling : VlanSum → List ℕ
vlan_spelling vlan = big_bytes 4 vlan.sum ++ big_bytes 2 vlan.vid.0 ++ 0 ∷ 0 ∷ []

-- how a record is spelled
abbrev pub change_spelling : TtChange → List ℕ
change_spelling change = change.flags ∷ 0 ∷ 0 ∷ 0 ∷ key_spelling change.key

-- how the body of a translation table is spelled: its head, the VLANs, the records
abbrev pub tt_spelling : TtData → List ℕ
tt_spelling table = tt_head_spelling table.flags table.ttvn (length table.vlans)
    ++ flat_map vlan_spelling table.vlans ++ flat_map change_spelling table.changes

-- how the body of a part of a translation table is spelled
abbrev pub tt_part_spelling : TtPart → List ℕ
tt_part_spelling part =
    tt_part_head_spelling part.table.flags part.table.ttvn (length part.table.vlans) part.number
    part.count
    ++ flat_map vlan_spelling part.table.vlans ++ flat_map change_spelling part.table.changes

-- how the body of a gateway is spelled
abbrev pub gateway_spelling : Bandwidth → List ℕ
gateway_spelling bandwidth = big_bytes 4 bandwidth.download ++ big_bytes 4 bandwidth.upload

-- how the body of a multicast container is spelled
abbrev pub multicast_spelling : ℕ → List ℕ
multicast_spelling flags = flags ∷ 0 ∷ 0 ∷ 0 ∷ []
