-- The bodies of the known containers, field by field, as batman-adv's packet header names them.
-- Numbers have their higher byte first. Reserved bytes are written 0 and ignored when read.
-- Bytes behind a body's fields are ignored, and so is a last record that isn't whole.
-- The main words are `tt_of_body`, `part_of_body`, `roaming_of_body`, `gateway_of_body` and
-- `multicast_of_body`, which are none where a body is too short.
use Rattle.std.specs.Prelude.{ℕ, zero, suc, ◌+◌, ◌*◌, ◌/◌, ◌==◌, nat_lt, if◌then◌else◌, Bool, List, [], ◌∷◌, length, take, drop, map, slice_index, bit_and, bit_or, Option, Some, None, option_map}
use Rattle.byteorder.specs.Endian.{big_number}
use Rattle.mesh_base.specs.declared.client.Vid.{Vid}
use Rattle.mesh_base.specs.declared.client.Key.{Key}
use Rattle.mesh_base.specs.declared.client.Entry.{Entry}
use Rattle.mesh_model.specs.Packets.Numbers.{del_flag, wifi_flag, isolated_flag}

-- a VLAN of a translation table, and the checksum of its clients
pub record VlanSum : Type 0 where
  pub vid : Vid
  pub sum : ℕ

-- a record of a translation table: its flags as they stand, and the client
pub record TtChange : Type 0 where
  pub flags : ℕ
  pub key : Key

-- what the body of a translation table tells
pub record TtData : Type 0 where
  pub flags : ℕ
  pub ttvn : ℕ
  pub vlans : List VlanSum
  pub changes : List TtChange

-- what the body of a part of a translation table tells: the table with the records of this part,
-- the part's number, from 0, and how many parts there are
pub record TtPart : Type 0 where
  pub table : TtData
  pub number : ℕ
  pub count : ℕ

-- what a gateway offers, each in 100 kbit/s
pub record Bandwidth : Type 0 where
  pub download : ℕ
  pub upload : ℕ

-- of the flags of a record those that its client keeps
abbrev pub client_flags : ℕ → ℕ
client_flags flags = bit_and flags (bit_or wifi_flag isolated_flag)

-- the client of a record, with the flags that it keeps
abbrev pub entry_of_change : TtChange → Entry
entry_of_change change = record { key = change.key; flags = client_flags change.flags }

-- whether a record takes its client away
abbrev pub is_deletion : TtChange → Bool
is_deletion change = bit_and change.flags del_flag == del_flag

-- the record that adds a client, or takes it away
abbrev pub change_of : Entry → Bool → TtChange
change_of entry is_gone = record {
  flags = bit_or (client_flags entry.flags) (if is_gone then del_flag else 0);
  key = entry.key;
}

-- the first pieces of bytes, so many, each of this size
unfoldable pub pieces : ℕ → ℕ → List ℕ → List (List ℕ)
pieces zero size bytes = []
pieces (suc more) size bytes = take size bytes ∷ pieces more size (drop size bytes)

-- the pieces of this size that bytes hold whole
abbrev pub whole_pieces : ℕ → List ℕ → List (List ℕ)
whole_pieces size bytes = pieces (length bytes / size) size bytes

-- a client: address 6, wire number of the VLAN 2
abbrev pub key_of_bytes : List ℕ → Key
key_of_bytes bytes = record {
  mac = record { 0 = take 6 bytes };
  vid = record { 0 = big_number 2 (drop 6 bytes) };
}

-- a VLAN: checksum 4, wire number 2, reserved 2
abbrev pub vlan_of_bytes : List ℕ → VlanSum
vlan_of_bytes bytes = record {
  sum = big_number 4 bytes;
  vid = record { 0 = big_number 2 (drop 4 bytes) };
}

-- a record: flags 1, reserved 3, client 8
abbrev pub change_of_bytes : List ℕ → TtChange
change_of_bytes bytes = record { flags = slice_index bytes 0; key = key_of_bytes (drop 4 bytes) }

-- the bytes of a client
abbrev pub key_size : ℕ
key_size = 8

-- the bytes of a VLAN
abbrev pub vlan_size : ℕ
vlan_size = 8

-- the bytes of a record
abbrev pub change_size : ℕ
change_size = 12

-- the bytes of a translation table before its VLANs
abbrev pub tt_head_size : ℕ
tt_head_size = 4

-- the bytes of a part of a translation table before its VLANs
abbrev pub tt_part_head_size : ℕ
tt_part_head_size = 8

-- the number of VLANs that a translation table tells; a byte that isn't there counts as 0
abbrev pub told_vlans : List ℕ → ℕ
told_vlans body = big_number 2 (drop 2 body)

-- the bytes of the VLANs that a translation table tells
abbrev pub vlans_size : List ℕ → ℕ
vlans_size body = vlan_size * told_vlans body

-- a body that is long enough, whose head has this size and begins: flags 1, version 1, number of
-- VLANs 2; behind the head come the VLANs, then the records
abbrev pub tt_data : ℕ → List ℕ → TtData
tt_data head body = record {
  flags = slice_index body 0;
  ttvn = slice_index body 1;
  vlans = map vlan_of_bytes (whole_pieces vlan_size (take (vlans_size body) (drop head body)));
  changes = map change_of_bytes (whole_pieces change_size (drop (head + vlans_size body) body));
}

-- what the body of a translation table tells, whose head has this size
abbrev pub tt_of_body : ℕ → List ℕ → Option TtData
tt_of_body head body =
    if nat_lt (length body) (head + vlans_size body) then None else Some (tt_data head body)

-- a part of a translation table, whose head goes on behind the number of VLANs: number 2, count 2
abbrev pub part_with : List ℕ → TtData → TtPart
part_with body table = record {
  table = table;
  number = big_number 2 (drop 4 body);
  count = big_number 2 (drop 6 body);
}

-- what the body of a part of a translation table tells
abbrev pub part_of_body : List ℕ → Option TtPart
part_of_body body = option_map (part_with body) (tt_of_body tt_part_head_size body)

-- the client that a roaming advertisement tells: client 8
abbrev pub roaming_of_body : List ℕ → Option Key
roaming_of_body body = if nat_lt (length body) key_size then None else Some (key_of_bytes body)

-- the least body of a gateway
abbrev pub gateway_size : ℕ
gateway_size = 8

-- what a gateway tells: download 4, upload 4
abbrev pub gateway_of_body : List ℕ → Option Bandwidth
gateway_of_body body = if nat_lt (length body) gateway_size then None
    else Some (record { download = big_number 4 body; upload = big_number 4 (drop 4 body) })

-- the least body of multicast flags
abbrev pub multicast_size : ℕ
multicast_size = 4

-- the multicast flags that a node tells: flags 1, reserved 3
abbrev pub multicast_of_body : List ℕ → Option ℕ
multicast_of_body body =
    if nat_lt (length body) multicast_size then None else Some (slice_index body 0)
