-- The parts of headers in bytes: how many bytes they have, and that each head's header has the size of its shape.
use Rattle.std.proofs.Common.{◌≡◌, ℕ, ◌+◌, List, [], ◌∷◌, length, drop, Some, refl, sym, ap, ◌∙◌, arith, length-append}
use Rattle.std.proofs.lemmas.List.{drop_at, drop-drop}
use Rattle.std.specs.Prelude.{sum_by}
use Rattle.std.proofs.lemmas.List.Sums.{sum_by-cons}
use Rattle.byteorder.specs.Numbers.{length-bytes_high_first}
use Rattle.mesh_model.specs.declared.packet.Head.{Head}
use Rattle.mesh_model.specs.declared.packet.Head.TheVariants.{IvOgm, Bcast, Elp, Ogm2, Unicast, Frag, Unicast4, Icmp, Utvlv}
use Rattle.mesh_model.specs.Packets.Shapes.{Field, field_size, header_size, shape_of, shape_of_type}
use Rattle.mesh_model.specs.Packets.Shapes.Field.{number as number_field, address as address_field, reserved as reserved_field, tvlv_length, fragment as fragment_field}
use Rattle.mesh_model.specs.Packets.Layout.{Part, Values, Holds, Fits, BeginWith, filled, values_of, header_of}
use Rattle.mesh_model.specs.Packets.Layout.Part.{number, address, fragment, reserved}

-- the bytes of a part
abbrev pub size_of : Part → ℕ
size_of (number size value) = size
size_of (address mac) = 6
size_of (fragment index priority) = 1
size_of (reserved size) = size

-- the bytes of several parts
abbrev pub width : List Part → ℕ
width [] = 0
width (part ∷ parts) = size_of part + width parts

-- what holds a part has its size
pub held_length : (front : List ℕ) (part : Part) → Holds front part → Fits part → length front ≡ size_of part
held_length front (number size value) holds fits = rw holds (length-bytes_high_first size value)
held_length front (address mac) holds fits = rw holds fits.0
held_length front (fragment index priority) holds fits = ap length holds.2
held_length front (reserved size) holds fits = holds

-- the bytes are as many as those of the parts and the others
pub begin_length : (bytes : List ℕ) (parts : List Part) (others : List ℕ) → BeginWith bytes parts others
    → length bytes ≡ width parts + length others
begin_length bytes [] others begins = omega (arith, ap length begins)
begin_length bytes (part ∷ parts) others begins =
    let first = begins.1 in
    let front = held_length first.front part first.holds first.fits in
    let more = begin_length begins.0 parts others begins.2 in
    omega (arith, front, more, ap length first.parts, length-append first.front begins.0)

-- what follows parts stands behind their bytes
pub others_behind : (bytes : List ℕ) (parts : List Part) (others : List ℕ) → BeginWith bytes parts others → others ≡ drop (width parts) bytes
others_behind bytes [] others begins = sym begins
others_behind bytes (part ∷ parts) others begins =
    let first = begins.1 in
    let front = held_length first.front part first.holds first.fits in
    let next : drop (size_of part) bytes ≡ begins.0 = rw first.parts (drop_at first.front begins.0 (size_of part) front) in
    others_behind begins.0 parts others begins.2 ∙ ap (drop (width parts)) (sym next) ∙ drop-drop (width parts) (size_of part) bytes

-- filled fields have the size of the fields
pub filled_width : (fields : List Field) (values : Values fields) (told : ℕ) → width (filled fields values told) ≡ sum_by field_size fields
filled_width [] values told = refl
filled_width (number_field size ∷ fields) values told =
    omega (arith, filled_width fields values.1 told, sum_by-cons field_size (number_field size) fields)
filled_width (address_field ∷ fields) values told =
    omega (arith, filled_width fields values.1 told, sum_by-cons field_size address_field fields)
filled_width (reserved_field size ∷ fields) values told =
    omega (arith, filled_width fields values told, sum_by-cons field_size (reserved_field size) fields)
filled_width (tvlv_length ∷ fields) values told =
    omega (arith, filled_width fields values told, sum_by-cons field_size tvlv_length fields)
filled_width (fragment_field ∷ fields) values told =
    omega (arith, filled_width fields values.1.1 told, sum_by-cons field_size fragment_field fields)

-- the header of a head has the size of its shape
pub header_width : (head : Head) (told : ℕ) → width (header_of head told) ≡ header_size (shape_of head)
header_width head told = omega (arith, filled_width (shape_of head).fields (values_of head) told)

-- the shape of a head is that with its type byte
pub shape_found : (head : Head) → shape_of_type (shape_of head).kind ≡ Some (shape_of head)
shape_found (IvOgm ttl flags seq orig prev tq) = refl
shape_found (Bcast ttl seq orig) = refl
shape_found (Elp orig seq interval) = refl
shape_found (Ogm2 ttl flags seq orig throughput) = refl
shape_found (Unicast ttl ttvn dst) = refl
shape_found (Frag ttl index priority dst orig seq total) = refl
shape_found (Unicast4 ttl ttvn dst src subtype) = refl
shape_found (Icmp ttl msg dst orig uid seq) = refl
shape_found (Utvlv ttl dst src) = refl
