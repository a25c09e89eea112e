-- Laws of the packet grammar: bytes begin with one packet at most, no two packets have one
-- spelling, what was written is read again, and what was read can be written.
use Rattle.std.specs.Prelude.{◌≡◌, ◌≢◌, ℕ, List, ◌++◌, length}
use Rattle.std.specs.List.{flat_map}
use Rattle.mesh_model.specs.declared.packet.Head.{Head}
use Rattle.mesh_model.specs.Packets.Shapes.{header_size, shape_of}
use Rattle.mesh_model.specs.Packets.Shapes.TailKind.{all_the_rest}
use Rattle.mesh_model.specs.Packets.Layout.{header_of, part_spelling, spelling, HasSpelling, IsPacket}
use Rattle.mesh_codec.specs.Encoding.{FitsFragment}

-- the bytes begin with one packet at most
abbrev pub HasOneReading : Type 0
HasOneReading = (bytes : List ℕ) (head other : Head) (tail others : List ℕ) (used count : ℕ)
    → IsPacket bytes head tail used → IsPacket bytes other others count
    → (head ≡ other) × (tail ≡ others) × (used ≡ count)

-- packets with one spelling are one packet
abbrev pub HasOneSpelling : Type 0
HasOneSpelling = (head other : Head) (tail others : List ℕ)
    → HasSpelling head tail → HasSpelling other others
    → spelling head tail ≡ spelling other others → (head ≡ other) × (tail ≡ others)

-- a packet whose tail isn't all the rest is read again, whatever follows it
abbrev pub IsReadBeforeMore : Type 0
IsReadBeforeMore = (head : Head) (tail more : List ℕ)
    → HasSpelling head tail → (shape_of head).tail ≢ all_the_rest
    → IsPacket (spelling head tail ++ more) head tail (length (spelling head tail))

-- a packet that stands alone is read again
abbrev pub IsReadAlone : Type 0
IsReadAlone = (head : Head) (tail : List ℕ)
    → HasSpelling head tail → IsPacket (spelling head tail) head tail (length (spelling head tail))

-- a packet that was read can be written
abbrev pub CanBeWritten : Type 0
CanBeWritten = (bytes : List ℕ) (head : Head) (tail : List ℕ) (used : ℕ)
    → IsPacket bytes head tail used → HasSpelling head tail × FitsFragment head

-- a header is as long as its shape says
abbrev pub HasShapeSize : Type 0
HasShapeSize = (head : Head) (tail : List ℕ) → HasSpelling head tail
    → length (flat_map part_spelling (header_of head (length tail))) ≡ header_size (shape_of head)
