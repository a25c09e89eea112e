-- The table of packets. A packet is its type byte, the version byte, the fields of its kind's
-- header and a tail. The shape of a kind says its type byte, its word, its fields in order, what
-- its tail is, and the head that values make; above each shape stand the names of its fields.
-- Numbers stand highest byte first, and flags may have any value. Reserved bytes are written as 0
-- and may hold anything when read. The main word is `shapes`; sizes, spelling and reading follow
-- from it.
use Rattle.std.specs.Prelude.{ℕ, ◌+◌, ◌==◌, List, [], ◌∷◌, find, sum_by, codes, Option}
use Rattle.mesh_base.specs.declared.address.Mac.{Mac}
use Rattle.mesh_model.specs.declared.packet.Head.{Head}
use Rattle.mesh_model.specs.declared.packet.Head.TheVariants.{IvOgm, Bcast, Elp, Ogm2, Unicast, Frag, Unicast4, Icmp, Utvlv}
use Rattle.mesh_model.specs.Packets.Numbers.{iv_ogm_type, bcast_type, elp_type, ogm2_type, unicast_type, frag_type, unicast4_type, icmp_type, utvlv_type}

-- a field of a header: a number of so many bytes; an address; so many reserved bytes; the length
-- of the containers that follow the header; a fragment's number (the upper four bits of a byte) and
-- priority (the next three, before a reserved bit)
pub data Field : Type 0 where
  number : ℕ → Field
  address : Field
  reserved : ℕ → Field
  tvlv_length : Field
  fragment : Field

-- what follows a header: as many bytes of containers as it tells, all the rest, or nothing
pub data TailKind : Type 0 where
  containers : TailKind
  all_the_rest : TailKind
  nothing : TailKind

-- the bytes of a field
abbrev pub field_size : Field → ℕ
field_size (number size) = size
field_size address = 6
field_size (reserved size) = size
field_size tvlv_length = 2
field_size fragment = 1

-- what makes a head from the values of fields, one after the other
abbrev pub HeadFrom : List Field → Type 0
HeadFrom [] = Head
HeadFrom (number size ∷ fields) = ℕ → HeadFrom fields
HeadFrom (address ∷ fields) = Mac → HeadFrom fields
HeadFrom (reserved size ∷ fields) = HeadFrom fields
HeadFrom (tvlv_length ∷ fields) = HeadFrom fields
HeadFrom (fragment ∷ fields) = ℕ → ℕ → HeadFrom fields

-- the shape of a kind of packet
pub record Shape : Type 0 where
  pub kind : ℕ
  pub word : List ℕ
  pub fields : List Field
  pub tail : TailKind
  pub head : HeadFrom fields

-- a shape from its parts
abbrev pub shape : ℕ → List ℕ → (fields : List Field) → TailKind → HeadFrom fields → Shape
shape kind word fields tail head =
    record { kind = kind; word = word; fields = fields; tail = tail; head = head }

-- a number of one byte
abbrev pub byte : Field
byte = number 1

-- ttl, flags, seq, orig, prev, -, tq, length
abbrev pub iv_ogm : Shape
iv_ogm = shape iv_ogm_type (codes "iv_ogm")
    (byte ∷ byte ∷ number 4 ∷ address ∷ address ∷ reserved 1 ∷ byte ∷ tvlv_length ∷ [])
    containers IvOgm

-- ttl, -, seq, orig
abbrev pub bcast : Shape
bcast = shape bcast_type (codes "bcast")
    (byte ∷ reserved 1 ∷ number 4 ∷ address ∷ []) all_the_rest Bcast

-- orig, seq, interval
abbrev pub elp : Shape
elp = shape elp_type (codes "elp") (address ∷ number 4 ∷ number 4 ∷ []) nothing Elp

-- ttl, flags, seq, orig, length, throughput
abbrev pub ogm2 : Shape
ogm2 = shape ogm2_type (codes "ogm2")
    (byte ∷ byte ∷ number 4 ∷ address ∷ tvlv_length ∷ number 4 ∷ []) containers Ogm2

-- ttl, ttvn, dst
abbrev pub unicast : Shape
unicast = shape unicast_type (codes "unicast") (byte ∷ byte ∷ address ∷ []) all_the_rest Unicast

-- ttl, number and priority, dst, orig, seq, total
abbrev pub frag : Shape
frag = shape frag_type (codes "frag")
    (byte ∷ fragment ∷ address ∷ address ∷ number 2 ∷ number 2 ∷ []) all_the_rest Frag

-- ttl, ttvn, dst, src, subtype, -
abbrev pub unicast4 : Shape
unicast4 = shape unicast4_type (codes "unicast4")
    (byte ∷ byte ∷ address ∷ address ∷ byte ∷ reserved 1 ∷ []) all_the_rest Unicast4

-- ttl, message type, dst, orig, uid, -, seq
abbrev pub icmp : Shape
icmp = shape icmp_type (codes "icmp")
    (byte ∷ byte ∷ address ∷ address ∷ byte ∷ reserved 1 ∷ number 2 ∷ []) nothing Icmp

-- ttl, -, dst, src, length, -
abbrev pub utvlv : Shape
utvlv = shape utvlv_type (codes "utvlv")
    (byte ∷ reserved 1 ∷ address ∷ address ∷ tvlv_length ∷ reserved 2 ∷ []) containers Utvlv

-- the shapes of all kinds
abbrev pub shapes : List Shape
shapes = iv_ogm ∷ bcast ∷ elp ∷ ogm2 ∷ unicast ∷ frag ∷ unicast4 ∷ icmp ∷ utvlv ∷ []

-- the shape with this type byte
abbrev pub shape_of_type : ℕ → Option Shape
shape_of_type kind = find (λ shape. shape.kind == kind) shapes

-- the bytes of type and version
abbrev pub prefix_size : ℕ
prefix_size = 2

-- the bytes of the header of a shape
abbrev pub header_size : Shape → ℕ
header_size shape = prefix_size + sum_by field_size shape.fields

-- the shape of a head
abbrev pub shape_of : Head → Shape
shape_of (IvOgm ttl flags seq orig prev tq) = iv_ogm
shape_of (Bcast ttl seq orig) = bcast
shape_of (Elp orig seq interval) = elp
shape_of (Ogm2 ttl flags seq orig throughput) = ogm2
shape_of (Unicast ttl ttvn dst) = unicast
shape_of (Frag ttl index priority dst orig seq total) = frag
shape_of (Unicast4 ttl ttvn dst src subtype) = unicast4
shape_of (Icmp ttl msg dst orig uid seq) = icmp
shape_of (Utvlv ttl dst src) = utvlv
