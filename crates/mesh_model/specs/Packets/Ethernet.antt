-- Ethernet frames as packets carry them: destination 6, source 6, for a tagged frame 0x8100 and the
-- VLAN's number in 2 bytes, then the type in 2 bytes and what follows it. A tag names a VLAN from 1
-- to 4094. Bytes that aren't so, or are of another type, are no frame of a type. The main words are
-- `ether_spelling` and `ether_frame_of`.
use Rattle.std.specs.Prelude.{replicate, ℕ, ◌+◌, ◌-◌, ◌==◌, ◌&&◌, nat_lt, nat_le, Bool, List, [], ◌++◌, length, take, drop, Option, Some, None, if◌then◌else◌}
use Rattle.byteorder.specs.Endian.{big_bytes, big_number}
use Rattle.mesh_base.specs.Vlan.{untagged, tagged_bit, first_vlan, last_vlan}
use Rattle.mesh_base.specs.declared.address.Mac.{Mac}
use Rattle.mesh_base.specs.declared.client.Vid.{Vid}
use Rattle.mesh_model.specs.Packets.Numbers.{vlan_ethertype}

-- a frame of a type: where it goes, where it comes from, its VLAN, and what follows the type
pub record EtherFrame : Type 0 where
  pub dst : Mac
  pub src : Mac
  pub vid : Vid
  pub rest : List ℕ

-- the address of all stations
abbrev pub all_stations : Mac
all_stations = record { 0 = replicate 6 255 }

-- ---- spelling

-- how the tag of a VLAN is spelled: nothing for none
abbrev pub tag_spelling : Vid → List ℕ
tag_spelling vid = if vid.0 == untagged then []
    else big_bytes 2 vlan_ethertype ++ big_bytes 2 (vid.0 - tagged_bit)

-- how a frame of a type is spelled
abbrev pub ether_spelling : ℕ → EtherFrame → List ℕ
ether_spelling ethertype frame = frame.dst.0 ++ frame.src.0 ++ tag_spelling frame.vid
    ++ big_bytes 2 ethertype ++ frame.rest

-- ---- reading

-- the bytes of the two addresses
abbrev pub addresses_size : ℕ
addresses_size = 12

-- the bytes of a type, or of a VLAN's number
abbrev pub type_size : ℕ
type_size = 2

-- whether bytes begin with a type
abbrev pub begin_type : ℕ → List ℕ → Bool
begin_type ethertype bytes =
    nat_le type_size (length bytes) && (big_number type_size bytes == ethertype)

-- the address in the six bytes at a place
abbrev pub address_in : ℕ → List ℕ → Mac
address_in place bytes = record { 0 = take 6 (drop place bytes) }

-- the frame of a type in a VLAN whose addresses these bytes begin with, where its type and the rest
-- follow
abbrev pub frame_behind : ℕ → List ℕ → Vid → List ℕ → Option EtherFrame
frame_behind ethertype bytes vid after = if begin_type ethertype after
    then Some (record {
      dst = address_in 0 bytes;
      src = address_in 6 bytes;
      vid = vid;
      rest = drop type_size after;
    })
    else None

-- whether a number is that of a tagged VLAN
abbrev pub is_vlan : ℕ → Bool
is_vlan number = nat_le first_vlan number && nat_le number last_vlan

-- the frame of a type whose addresses these bytes begin with, where a VLAN's number follows
abbrev pub tagged_frame : ℕ → List ℕ → List ℕ → Option EtherFrame
tagged_frame ethertype bytes after = if nat_lt (length after) type_size then None
    else if is_vlan (big_number type_size after)
    then frame_behind ethertype bytes (record { 0 = tagged_bit + big_number type_size after })
    (drop type_size after)
    else None

-- the frame of a type that bytes with this behind their addresses are
abbrev pub frame_by_type : ℕ → List ℕ → List ℕ → Option EtherFrame
frame_by_type ethertype bytes after = if begin_type vlan_ethertype after
    then tagged_frame ethertype bytes (drop type_size after)
    else frame_behind ethertype bytes (record { 0 = untagged }) after

-- the frame of a type that bytes are, where they are one
abbrev pub ether_frame_of : ℕ → List ℕ → Option EtherFrame
ether_frame_of ethertype bytes = if nat_lt (length bytes) addresses_size then None
    else frame_by_type ethertype bytes (drop addresses_size bytes)
