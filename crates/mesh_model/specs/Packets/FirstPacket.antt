-- The packet that bytes begin with, computed field by field from the table of shapes; or the first
-- cause for which they begin none: fewer bytes than type and version, or than the header of the
-- kind, need; another version; a type byte of no kind; more bytes of containers told than are left
-- after the header. The main word is `first_packet`. It agrees with `IsPacket` of the grammar.
use Rattle.std.specs.Prelude.{ℕ, ◌==◌, nat_lt, if◌then◌else◌, List, [], ◌∷◌, length, take, drop, Option, Some, None, Result, Ok, Err}
use Rattle.byteorder.specs.Endian.{big_number}
use Rattle.mesh_base.specs.declared.address.Mac.{Mac}
use Rattle.mesh_model.specs.declared.packet.Head.{Head}
use Rattle.mesh_model.specs.declared.link_frame.NoPacket.{NoPacket}
use Rattle.mesh_model.specs.declared.link_frame.NoPacket.TheVariants.{Short, Version, Kind, Length}
use Rattle.mesh_model.specs.Packets.Numbers.{compat_version}
use Rattle.mesh_model.specs.Packets.Layout.{number_in, priority_in}
use Rattle.mesh_model.specs.Packets.Shapes.{Field, Shape, TailKind, HeadFrom, field_size, header_size, prefix_size, shape_of_type}
use Rattle.mesh_model.specs.Packets.Shapes.Field.{number, address, reserved, tvlv_length, fragment}
use Rattle.mesh_model.specs.Packets.Shapes.TailKind.{containers, all_the_rest, nothing}

-- a packet: its head and its tail
pub record Packet : Type 0 where
  pub head : Head
  pub tail : List ℕ

-- a packet at the front of bytes, and the bytes after it
pub record Front : Type 0 where
  pub packet : Packet
  pub rest : List ℕ

-- the address in the first bytes
abbrev pub address_of : List ℕ → Mac
address_of bytes = record { 0 = take (field_size address) bytes }

-- the head that values make which are read from bytes field by field
abbrev pub head_in : (fields : List Field) → HeadFrom fields → List ℕ → Head
head_in [] head bytes = head
head_in (number size ∷ fields) make bytes =
    head_in fields (make (big_number size bytes)) (drop size bytes)
head_in (address ∷ fields) make bytes =
    head_in fields (make (address_of bytes)) (drop (field_size address) bytes)
head_in (reserved size ∷ fields) make bytes = head_in fields make (drop size bytes)
head_in (tvlv_length ∷ fields) make bytes =
    head_in fields make (drop (field_size tvlv_length) bytes)
head_in (fragment ∷ fields) make bytes =
    head_in fields (make (number_in (big_number 1 bytes)) (priority_in (big_number 1 bytes)))
    (drop (field_size fragment) bytes)

-- the length of containers that is read from the bytes of fields, which is 0 where they tell none
abbrev pub told_in : List Field → List ℕ → ℕ
told_in [] bytes = 0
told_in (number size ∷ fields) bytes = told_in fields (drop size bytes)
told_in (address ∷ fields) bytes = told_in fields (drop (field_size address) bytes)
told_in (reserved size ∷ fields) bytes = told_in fields (drop size bytes)
told_in (tvlv_length ∷ fields) bytes = big_number (field_size tvlv_length) bytes
told_in (fragment ∷ fields) bytes = told_in fields (drop (field_size fragment) bytes)

-- the length of a tail of this kind, by the told length and the bytes that are left
abbrev pub tail_length : TailKind → ℕ → ℕ → ℕ
tail_length containers told left = told
tail_length all_the_rest told left = left
tail_length nothing told left = 0

-- the packet of a head with a tail of this length at the front of the bytes after the header
abbrev pub packet_cut : Head → ℕ → List ℕ → Result Front NoPacket
packet_cut head len after =
    if nat_lt (length after) len then Err (Length len (length after))
    else Ok (record {
      packet = record { head = head; tail = take len after };
      rest = drop len after;
    })

-- the packet of a shape whose fields these bytes hold, and go on with those after the header
abbrev pub packet_of_fields : Shape → List ℕ → List ℕ → Result Front NoPacket
packet_of_fields shape fields after = packet_cut (head_in shape.fields shape.head fields)
    (tail_length shape.tail (told_in shape.fields fields) (length after)) after

-- the packet of bytes with this type byte, whose shape this is
abbrev pub packet_of_shape : ℕ → Option Shape → List ℕ → Result Front NoPacket
packet_of_shape kind None bytes = Err (Kind kind)
packet_of_shape kind (Some shape) bytes =
    if nat_lt (length bytes) (header_size shape)
    then Err (Short (length bytes) (header_size shape))
    else packet_of_fields shape (drop prefix_size bytes) (drop (header_size shape) bytes)

-- the packet that bytes begin with, or why there is none
unfoldable pub first_packet : List ℕ → Result Front NoPacket
first_packet [] = Err (Short 0 prefix_size)
first_packet (kind ∷ []) = Err (Short 1 prefix_size)
first_packet (kind ∷ version ∷ fields) =
    if version == compat_version
    then packet_of_shape kind (shape_of_type kind) (kind ∷ version ∷ fields)
    else Err (Version version)
