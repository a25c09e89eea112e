-- What is left behind the fields of a header that are read one after the other.
use Rattle.std.proofs.Common.{◌≡◌, ℕ, ◌-◌, ◌≤◌, ◌<◌, List, [], ◌∷◌, length, take, drop, inl, refl, sym, ap, ap₂, ◌∙◌, arith, Bool, if◌then◌else◌, Option, Some, None, Err}
use Rattle.std.specs.Prelude.{sum_by, slice_index}
use Rattle.std.proofs.lemmas.List.{drop-drop, length-drop, take_all}
use Rattle.std.proofs.lemmas.List.Sums.{sum_by-cons}
use Rattle.mesh_model.specs.Packets.Shapes.{Field, field_size, header_size, Shape, shape_of_type}
use Rattle.mesh_model.specs.Packets.Shapes.Field.{number, address, reserved, tvlv_length, fragment}
use Rattle.mesh_model.specs.declared.packet.Head.{Head}
use Rattle.mesh_model.specs.declared.link_frame.NoPacket.TheVariants.{Short, Version}
use Rattle.mesh_model.specs.Packets.Numbers.{compat_version}
use Rattle.mesh_model.specs.Packets.FirstPacket.{packet_cut, packet_of_fields, packet_of_shape, first_packet}
use Rattle.mesh_laws.proofs.CauseLemmas.{cause_is_computed}
use Rattle.mesh_laws.proofs.FirstPacketLemmas.{ltb-from_le, first_packet-front}
use Rattle.mesh_codec.specs.declared.header.Header.{Header}
use Rattle.mesh_codec.specs.Inner.Reading.{behind_fields, extent_length, IsHeader}

-- behind one field more
one_more : (field : Field) (fields : List Field) (bytes : List ℕ)
    → drop (sum_by field_size fields) (drop (field_size field) bytes) ≡ drop (sum_by field_size (field ∷ fields)) bytes
one_more field fields bytes = drop-drop (sum_by field_size fields) (field_size field) bytes
    ∙ ap (λ (n : ℕ). drop n bytes) (sym (sum_by-cons field_size field fields))

pub behind_all : (fields : List Field) (bytes : List ℕ) → behind_fields fields bytes ≡ drop (sum_by field_size fields) bytes
behind_all [] bytes = refl
behind_all (number size ∷ fields) bytes = behind_all fields (drop size bytes) ∙ one_more (number size) fields bytes
behind_all (address ∷ fields) bytes = behind_all fields (drop 6 bytes) ∙ one_more address fields bytes
behind_all (reserved size ∷ fields) bytes = behind_all fields (drop size bytes) ∙ one_more (reserved size) fields bytes
behind_all (tvlv_length ∷ fields) bytes = behind_all fields (drop 2 bytes) ∙ one_more tvlv_length fields bytes
behind_all (fragment ∷ fields) bytes = behind_all fields (drop 1 bytes) ∙ one_more fragment fields bytes

-- bytes whose header was read are the packet that is cut behind it
pub read_packet : (kind : ℕ) (fields : List ℕ) (known : Option Shape) (header : Header) → IsHeader known fields header
    → packet_of_shape kind known (kind ∷ compat_version ∷ fields) ≡ packet_cut header.head (extent_length header.extent (length header.rest.now)) header.rest.now
read_packet kind fields None header is = absurd is
read_packet kind fields (Some shape) header is =
    let bytes = kind ∷ compat_version ∷ fields in
    let read = is.0 in
    let after : drop (header_size shape) bytes ≡ header.rest.now = sym (drop-drop (sum_by field_size shape.fields) 2 bytes) ∙ sym (behind_all shape.fields fields) ∙ sym read.rest_is in
    ap (λ (b : Bool). if b then Err (Short (length bytes) (header_size shape)) else packet_of_fields shape fields (drop (header_size shape) bytes)) (ltb-from_le (length bytes) (header_size shape) (omega (arith, is.1)))
    ∙ ap (packet_of_fields shape fields) after
    ∙ ap₂ (λ (h : Head) (n : ℕ). packet_cut h n header.rest.now) (sym read.head_is) (sym (read.extent_is (length header.rest.now)))

-- ---- type and version

pub too_few : (bytes : List ℕ) → length bytes < 2 → first_packet bytes ≡ Err (Short (length bytes) 2)
too_few bytes few = cause_is_computed bytes (Short (length bytes) 2) (record { have_is = refl; needed = inl refl; fewer = few })

pub other_version : (bytes : List ℕ) → 2 ≤ length bytes → (slice_index bytes 1 ≡ compat_version → ⊥) → first_packet bytes ≡ Err (Version (slice_index bytes 1))
other_version [] some other = absurd (omega (arith, some))
other_version (kind ∷ []) some other = absurd (omega (arith, some))
other_version (kind ∷ version ∷ fields) some other = cause_is_computed (kind ∷ version ∷ fields) (Version version) (refl, other)

pub right_version : (bytes : List ℕ) → 2 ≤ length bytes → slice_index bytes 1 ≡ compat_version
    → first_packet bytes ≡ packet_of_shape (slice_index bytes 0) (shape_of_type (slice_index bytes 0)) (slice_index bytes 0 ∷ compat_version ∷ drop 2 bytes)
right_version [] some is = absurd (omega (arith, some))
right_version (kind ∷ []) some is = absurd (omega (arith, some))
right_version (kind ∷ version ∷ fields) some is =
    let same : kind ∷ version ∷ fields ≡ kind ∷ compat_version ∷ fields = ap (λ (v : ℕ). kind ∷ v ∷ fields) is in
    first_packet-front (kind ∷ version ∷ fields) kind fields same ∙ ap (packet_of_shape kind (shape_of_type kind)) same

-- the packet behind a header that was read
pub read_first : (bytes : List ℕ) (header : Header) → 2 ≤ length bytes → slice_index bytes 1 ≡ compat_version → IsHeader (shape_of_type (slice_index bytes 0)) (drop 2 bytes) header
    → first_packet bytes ≡ packet_cut header.head (extent_length header.extent (length header.rest.now)) header.rest.now
read_first bytes header some is read =
    right_version bytes some is ∙ read_packet (slice_index bytes 0) (drop 2 bytes) (shape_of_type (slice_index bytes 0)) header read

-- the bytes after the first two, as a pattern takes them
pub all_after : (bytes : List ℕ) → take (length bytes - 2) (drop 2 bytes) ≡ drop 2 bytes
all_after bytes = take_all (length bytes - 2) (drop 2 bytes) (omega (arith, length-drop 2 bytes))
