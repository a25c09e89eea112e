-- A packet that bytes begin with is computed from them, and so is a header that tells too much.
use Rattle.std.proofs.Common.{◌≡◌, ℕ, ◌+◌, ◌%◌, ◌≤◌, ◌<◌, List, [], ◌∷◌, ◌++◌, length, drop, Option, Result, Ok, Err, refl, sym, ap, ap₂, ◌∙◌, arith, Bool, true, false, if◌then◌else◌, length-append}
use Rattle.std.specs.Prelude.{nat_lt}
use Rattle.std.proofs.lemmas.Bool.Decides.{nat_tests}
use Rattle.std.proofs.lemmas.List.{take_at, drop_at, drop-drop}
use Rattle.mesh_model.specs.declared.packet.Head.{Head}
use Rattle.mesh_model.specs.declared.link_frame.NoPacket.{NoPacket}
use Rattle.mesh_model.specs.declared.link_frame.NoPacket.TheVariants.{Short, Length}
use Rattle.mesh_model.specs.Packets.Numbers.{compat_version}
use Rattle.mesh_model.specs.Packets.Shapes.{Shape, TailKind, shape_of, shape_of_type, header_size}
use Rattle.mesh_model.specs.Packets.Shapes.TailKind.{containers, all_the_rest, nothing}
use Rattle.mesh_model.specs.Packets.Layout.{BeginWith, IsTail, IsPacket, filled, values_of, header_of}
use Rattle.mesh_model.specs.Packets.FirstPacket.{Front, tail_length, packet_cut, packet_of_fields, packet_of_shape, first_packet}
use Rattle.mesh_laws.proofs.HeaderLemmas.{width, begin_length, others_behind, header_width, shape_found}
use Rattle.mesh_laws.proofs.ReadingLemmas.{fields_read, made_again, telling, tells_as_tail}

-- type and version stand first, and then the fields
pub record HasFront (bytes : List ℕ) (head : Head) (told : ℕ) (after : List ℕ) : Type 0 where
  pub fields : List ℕ
  pub bytes_are : bytes ≡ (shape_of head).kind ∷ compat_version ∷ fields
  pub begin : BeginWith fields (filled (shape_of head).fields (values_of head) told) after

pub front_of_header : (bytes : List ℕ) (head : Head) (told : ℕ) (after : List ℕ) → BeginWith bytes (header_of head told) after → HasFront bytes head told after
front_of_header bytes head told after begins =
    let kind = (shape_of head).kind in
    let kind_byte : kind % 256 ≡ kind = omega (arith, begins.1.fits) in
    let version = begins.2 in
    record {
      fields = version.0;
      bytes_are = begins.1.parts ∙ ap (λ (front : List ℕ). front ++ begins.0) (begins.1.holds ∙ ap (λ (b : ℕ). b ∷ []) kind_byte)
          ∙ ap (λ (l : List ℕ). kind ∷ l) (version.1.parts ∙ ap (λ (front : List ℕ). front ++ version.0) version.1.holds);
      begin = version.2;
    }

-- bytes of this type byte and version
pub first_packet-front : (bytes : List ℕ) (kind : ℕ) (fields : List ℕ) → bytes ≡ kind ∷ compat_version ∷ fields
    → first_packet bytes ≡ packet_of_shape kind (shape_of_type kind) bytes
unfolding first_packet
first_packet-front bytes kind fields is = rw is refl

pub ltb-from_le : (a b : ℕ) → b ≤ a → nat_lt a b ≡ false
ltb-from_le a b h = grind (arith, nat_tests)

pub ltb-from_lt : (a b : ℕ) → a < b → nat_lt a b ≡ true
ltb-from_lt a b h = grind (arith, nat_tests)

-- the packet of a header, by the length of containers that it tells
abbrev pub cut_behind : Head → ℕ → List ℕ → Result Front NoPacket
cut_behind head told after = packet_cut head (tail_length (shape_of head).tail (telling (shape_of head).tail told) (length after)) after

-- bytes that begin with a header are its packet, or have a length that passes the end
pub first_packet-header : (bytes : List ℕ) (head : Head) (told : ℕ) (after : List ℕ) → BeginWith bytes (header_of head told) after
    → first_packet bytes ≡ cut_behind head told after
first_packet-header bytes head told after begins =
    let shape = shape_of head in
    let front = front_of_header bytes head told after begins in
    let size = header_width head told in
    let whole : header_size shape ≤ length bytes = omega (arith, size, begin_length bytes (header_of head told) after begins) in
    let behind : drop (header_size shape) bytes ≡ after = ap (λ (n : ℕ). drop n bytes) (sym size) ∙ sym (others_behind bytes (header_of head told) after begins) in
    let fields : drop 2 bytes ≡ front.fields = ap (drop 2) front.bytes_are in
    let read = fields_read shape.fields shape.head (values_of head) told front.fields after front.begin in
    first_packet-front bytes shape.kind front.fields front.bytes_are
    ∙ ap (λ (o : Option Shape). packet_of_shape shape.kind o bytes) (shape_found head)
    ∙ ap (λ (b : Bool). if b then Err (Short (length bytes) (header_size shape)) else packet_of_fields shape (drop 2 bytes) (drop (header_size shape) bytes)) (ltb-from_le (length bytes) (header_size shape) whole)
    ∙ ap₂ (packet_of_fields shape) fields behind
    ∙ ap₂ (λ (h : Head) (n : ℕ). packet_cut h (tail_length shape.tail n (length after)) after) (read.head ∙ made_again head) (read.length_is ∙ tells_as_tail head told)

-- a tail that is there, whole, before the rest is as long as its kind asks
tail_is_cut : (kind : TailKind) (tail rest : List ℕ) → IsTail kind tail rest
    → tail_length kind (telling kind (length tail)) (length (tail ++ rest)) ≡ length tail
tail_is_cut containers tail rest is = refl
tail_is_cut all_the_rest tail rest is = omega (arith, length-append tail rest, ap length is)
tail_is_cut nothing tail rest is = sym (ap length is)

-- a tail that is whole is cut off before the rest
packet_cut-whole : (head : Head) (tail rest : List ℕ)
    → packet_cut head (length tail) (tail ++ rest) ≡ Ok (record { packet = record { head = head; tail = tail }; rest = rest })
packet_cut-whole head tail rest =
    let whole : length tail ≤ length (tail ++ rest) = omega (arith, length-append tail rest) in
    rw (ltb-from_le (length (tail ++ rest)) (length tail) whole, take_at tail rest (length tail) refl, drop_at tail rest (length tail) refl) refl

-- a packet that bytes begin with is computed from them
pub first_packet-found : (bytes : List ℕ) (head : Head) (tail : List ℕ) (used : ℕ) → IsPacket bytes head tail used
    → first_packet bytes ≡ Ok (record { packet = record { head = head; tail = tail }; rest = drop used bytes })
first_packet-found bytes head tail used packet =
    let told = length tail in
    let parts = header_of head told in
    let counted = begin_length bytes parts (tail ++ packet.rest) packet.header in
    let used_is : used ≡ width parts + told = omega (arith, counted, packet.used_is, length-append tail packet.rest) in
    let rest : packet.rest ≡ drop used bytes = sym (drop_at tail packet.rest told refl) ∙ ap (drop told) (others_behind bytes parts (tail ++ packet.rest) packet.header)
    ∙ drop-drop told (width parts) bytes ∙ ap (λ (n : ℕ). drop n bytes) (sym used_is) in
    first_packet-header bytes head told (tail ++ packet.rest) packet.header
    ∙ ap (λ (n : ℕ). packet_cut head n (tail ++ packet.rest)) (tail_is_cut (shape_of head).tail tail packet.rest packet.tail_is)
    ∙ packet_cut-whole head tail packet.rest
    ∙ ap (λ (r : List ℕ). Ok (record { packet = record { head = head; tail = tail }; rest = r })) rest

-- a header that tells more containers than bytes are left begins no packet
pub first_packet-long : (bytes : List ℕ) (head : Head) (told : ℕ) (after : List ℕ) → BeginWith bytes (header_of head told) after
    → (shape_of head).tail ≡ containers → length after < told → first_packet bytes ≡ Err (Length told (length after))
first_packet-long bytes head told after begins tail_is more =
    first_packet-header bytes head told after begins
    ∙ ap (λ (kind : TailKind). packet_cut head (tail_length kind (telling kind told) (length after)) after) tail_is
    ∙ rw (ltb-from_lt (length after) told more) refl
