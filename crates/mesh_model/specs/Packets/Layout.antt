-- The bytes of packets. The shape of a head's kind, filled with the values of the head, gives the
-- parts of its header. The main words are `spelling`, the bytes that a packet is written as, and
-- `IsPacket`, what bytes begin with.
use Rattle.std.specs.Prelude.{◌≡◌, ℕ, ◌+◌, ◌*◌, ◌/◌, ◌%◌, ◌<◌, ◌≤◌, ◌^◌, List, [], ◌∷◌, ◌++◌, length, replicate, slice_index, ⊤}
use Rattle.std.specs.List.{flat_map, AllByRecursion}
use Rattle.std.specs.Int.{bytes_high_first}
use Rattle.mesh_base.specs.declared.address.Mac.{Mac}
use Rattle.mesh_model.specs.declared.packet.Head.{Head}
use Rattle.mesh_model.specs.declared.packet.Head.TheVariants.{IvOgm, Bcast, Elp, Ogm2, Unicast, Frag, Unicast4, Icmp, Utvlv}
use Rattle.mesh_model.specs.Packets.Numbers.{compat_version}
use Rattle.mesh_model.specs.Packets.Shapes.{Field, TailKind, shape_of}
use Rattle.mesh_model.specs.Packets.Shapes.Field.{number as number_field, address as address_field, reserved as reserved_field, tvlv_length, fragment as fragment_field}
use Rattle.mesh_model.specs.Packets.Shapes.TailKind.{containers, all_the_rest, nothing}

-- a part of a header, which is a field with its value: a number with its width in bytes; an
-- address; a fragment's number and priority; so many reserved bytes
pub data Part : Type 0 where
  number : ℕ → ℕ → Part
  address : Mac → Part
  fragment : ℕ → ℕ → Part
  reserved : ℕ → Part

-- the values of fields, one after the other
abbrev pub Values : List Field → Type 0
Values [] = ⊤
Values (number_field size ∷ fields) = ℕ × Values fields
Values (address_field ∷ fields) = Mac × Values fields
Values (reserved_field size ∷ fields) = Values fields
Values (tvlv_length ∷ fields) = Values fields
Values (fragment_field ∷ fields) = ℕ × (ℕ × Values fields)

infixr 5 ◌&◌
-- a value before others
abbrev ◌&◌ : {A B : Type 0} → A → B → A × B
value & others = (value, others)

-- the values in a head
abbrev pub values_of : (head : Head) → Values (shape_of head).fields
values_of (IvOgm ttl flags seq orig prev tq) = ttl & flags & seq & orig & prev & tq & tt
values_of (Bcast ttl seq orig) = ttl & seq & orig & tt
values_of (Elp orig seq interval) = orig & seq & interval & tt
values_of (Ogm2 ttl flags seq orig throughput) = ttl & flags & seq & orig & throughput & tt
values_of (Unicast ttl ttvn dst) = ttl & ttvn & dst & tt
values_of (Frag ttl index priority dst orig seq total) =
    ttl & index & priority & dst & orig & seq & total & tt
values_of (Unicast4 ttl ttvn dst src subtype) = ttl & ttvn & dst & src & subtype & tt
values_of (Icmp ttl msg dst orig uid seq) = ttl & msg & dst & orig & uid & seq & tt
values_of (Utvlv ttl dst src) = ttl & dst & src & tt

-- the parts that fields are with these values, where `told` is the length of the containers after
-- the header
abbrev pub filled : (fields : List Field) → Values fields → ℕ → List Part
filled [] values told = []
filled (number_field size ∷ fields) values told = number size values.0 ∷ filled fields values.1 told
filled (address_field ∷ fields) values told = address values.0 ∷ filled fields values.1 told
filled (reserved_field size ∷ fields) values told = reserved size ∷ filled fields values told
filled (tvlv_length ∷ fields) values told = number 2 told ∷ filled fields values told
filled (fragment_field ∷ fields) values told =
    fragment values.0 values.1.0 ∷ filled fields values.1.1 told

-- the parts of a whole header in order
abbrev pub header_of : Head → ℕ → List Part
header_of head told = number 1 (shape_of head).kind ∷ number 1 compat_version
    ∷ filled (shape_of head).fields (values_of head) told

-- what one of a fragment's number is in its byte
abbrev pub number_step : ℕ
number_step = 16

-- what one of a fragment's priority is in its byte
abbrev pub priority_step : ℕ
priority_step = 2

-- the byte of a fragment's number and priority, without its spare bit
abbrev pub fragment_byte : ℕ → ℕ → ℕ
fragment_byte index priority = number_step * index + priority_step * priority

-- the fragment's number in a byte
abbrev pub number_in : ℕ → ℕ
number_in byte = byte / number_step

-- the priority in a byte
abbrev pub priority_in : ℕ → ℕ
priority_in byte = byte / priority_step % 8

-- the bytes that a part is written as
abbrev pub part_spelling : Part → List ℕ
part_spelling (number size value) = bytes_high_first size value
part_spelling (address mac) = mac.0
part_spelling (fragment index priority) = fragment_byte index priority ∷ []
part_spelling (reserved size) = replicate size 0

-- the bytes that a packet is written as
abbrev pub spelling : Head → List ℕ → List ℕ
spelling head tail = flat_map part_spelling (header_of head (length tail)) ++ tail

-- a fragment's number has four bits, and its priority three
abbrev pub FitsFragmentByte : ℕ → ℕ → Type 0
FitsFragmentByte index priority = (index ≤ 15) × (priority ≤ 7)

-- the value of a part fits its bytes
abbrev pub Fits : Part → Type 0
Fits (number size value) = value < 256 ^ size
Fits (address mac) = (length mac.0 ≡ 6) × ((i : ℕ) → slice_index mac.0 i < 256)
Fits (fragment index priority) = FitsFragmentByte index priority
Fits (reserved size) = ⊤

-- these bytes hold the part; a reserved place holds anything
abbrev pub Holds : List ℕ → Part → Type 0
Holds bytes (number size value) = bytes ≡ bytes_high_first size value
Holds bytes (address mac) = bytes ≡ mac.0
Holds bytes (fragment index priority) =
    (spare : ℕ) × (spare < 2) × (bytes ≡ (fragment_byte index priority + spare) ∷ [])
Holds bytes (reserved size) = length bytes ≡ size

-- the bytes begin with the part, and go on with others
pub record BeginsWith (bytes : List ℕ) (part : Part) (others : List ℕ) : Type 0 where
  pub front : List ℕ
  pub holds : Holds front part
  pub fits : Fits part
  pub parts : bytes ≡ front ++ others

-- the bytes begin with the parts in order, and go on with others
abbrev pub BeginWith : List ℕ → List Part → List ℕ → Type 0
BeginWith bytes [] others = bytes ≡ others
BeginWith bytes (part ∷ parts) others =
    (next : List ℕ) × BeginsWith bytes part next × BeginWith next parts others

-- a tail of this kind is there, whole, before the rest
abbrev pub IsTail : TailKind → List ℕ → List ℕ → Type 0
IsTail containers tail rest = ⊤
IsTail all_the_rest tail rest = rest ≡ []
IsTail nothing tail rest = tail ≡ []

-- the bytes begin with this packet, of `used` bytes
pub record IsPacket (bytes : List ℕ) (head : Head) (tail : List ℕ) (used : ℕ) : Type 0 where
  pub rest : List ℕ
  pub header : BeginWith bytes (header_of head (length tail)) (tail ++ rest)
  pub tail_is : IsTail (shape_of head).tail tail rest
  pub used_is : used + length rest ≡ length bytes

-- what can be written: each value fits its field, and a kind that has no tail is given none
pub record HasSpelling (head : Head) (tail : List ℕ) : Type 0 where
  pub parts : AllByRecursion Fits (header_of head (length tail))
  pub tail_is : IsTail (shape_of head).tail tail []
