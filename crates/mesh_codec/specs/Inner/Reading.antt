-- What the steps of reading a packet leave.
use Rattle.std.specs.Prelude.{◌≡◌, ◌≤◌, ◌+◌, ℕ, List, [], ◌∷◌, length, drop, Option, Some, None}
use Rattle.mesh_model.specs.Packets.FirstPacket as packets
use Rattle.mesh_model.specs.Packets.FirstPacket.{head_in, told_in, tail_length}
use Rattle.mesh_model.specs.Packets.Shapes.{Field, Shape, header_size, prefix_size}
use Rattle.mesh_model.specs.Packets.Shapes.Field.{number, address, reserved, tvlv_length, fragment}
use Rattle.mesh_codec.specs.declared.first_packet.Front.{Front}
use Rattle.mesh_codec.specs.declared.header.Extent.{Extent}
use Rattle.mesh_codec.specs.declared.header.Extent.TheVariants.{Told, Rest, Nothing}
use Rattle.mesh_codec.specs.declared.header.Header.{Header}
use Rattle.mesh_codec.specs.Frames.{seen}

-- a packet at the front of bytes, apart from where they lie
abbrev pub seen_front : Front → packets.Front
seen_front front = record { packet = seen front.packet; rest = front.rest.now }

-- the length that an extent gives a tail before so many bytes
abbrev pub extent_length : Extent → ℕ → ℕ
extent_length (Told told) left = told
extent_length Rest left = left
extent_length Nothing left = 0

-- what is left of bytes behind fields that are read one after the other
abbrev pub behind_fields : List Field → List ℕ → List ℕ
behind_fields [] bytes = bytes
behind_fields (number size ∷ fields) bytes = behind_fields fields (drop size bytes)
behind_fields (address ∷ fields) bytes = behind_fields fields (drop 6 bytes)
behind_fields (reserved size ∷ fields) bytes = behind_fields fields (drop size bytes)
behind_fields (tvlv_length ∷ fields) bytes = behind_fields fields (drop 2 bytes)
behind_fields (fragment ∷ fields) bytes = behind_fields fields (drop 1 bytes)

-- a header of this shape was read from the bytes after type and version
pub record HasRead (shape : Shape) (fields : List ℕ) (header : Header) : Type 0 where
  pub head_is : header.head ≡ head_in shape.fields shape.head fields
  pub extent_is : (left : ℕ) → extent_length header.extent left
      ≡ tail_length shape.tail (told_in shape.fields fields) left
  pub rest_is : header.rest.now ≡ behind_fields shape.fields fields

-- a header of this shape, where there is one, was read from enough bytes
abbrev pub IsHeader : Option Shape → List ℕ → Header → Type 0
IsHeader None fields header = ⊥
IsHeader (Some shape) fields header =
    HasRead shape fields header × (header_size shape ≤ prefix_size + length fields)
