-- Bytes that hold a whole header begin with the header of the head that is read from them.
use Rattle.std.proofs.Common.{◌≡◌, ℕ, ◌/◌, ◌%◌, ◌^◌, ◌<◌, ◌≤◌, List, [], ◌∷◌, length, take, drop, refl, sym, ap, subst, ◌∙◌, arith, Bool, true, false, Option, Some}
use Rattle.std.specs.Prelude.{cond, find, sum_by, ◌&&◌, ◌==◌, not}
use Rattle.std.specs.List.{AllByRecursion}
use Rattle.std.proofs.lemmas.List.{drop-drop, length-drop, length-take-le, take-append-drop}
use Rattle.std.proofs.lemmas.List.Elements.{All-drop}
use Rattle.std.proofs.lemmas.List.Sums.{sum_by-cons}
use Rattle.std.specs.Int.{bytes_high_first}
use Rattle.byteorder.specs.Endian.{big_number}
use Rattle.byteorder.specs.Numbers.{big_from-lt}
use Rattle.mesh_model.specs.declared.packet.Head.{Head}
use Rattle.mesh_model.specs.Packets.Numbers.{compat_version}
use Rattle.mesh_model.specs.Packets.Shapes.{Field, HeadFrom, Shape, field_size, header_size, shape_of, shape_of_type, shapes}
use Rattle.mesh_model.specs.Packets.Shapes.Field.{number as number_field, address as address_field, reserved as reserved_field, tvlv_length, fragment as fragment_field}
use Rattle.mesh_model.specs.Packets.Shapes.TailKind.{containers}
use Rattle.mesh_model.specs.Packets.Layout.{Part, Values, Holds, Fits, BeginsWith, BeginWith, filled, header_of}
use Rattle.mesh_model.specs.Packets.Layout.Part.{number, address, fragment, reserved}
use Rattle.mesh_model.specs.Packets.FirstPacket.{head_in, told_in, address_of}
use Rattle.mesh_laws.specs.PacketLaws.{AreBytes}
use Rattle.mesh_laws.proofs.HeaderLemmas.{filled_width, others_behind}
use Rattle.mesh_laws.proofs.NumberLemmas.{small_at, small_front, is_width, number_back, fragment_back, first_byte, eqb-to}
use Rattle.mesh_laws.proofs.ReadingLemmas.{made}

-- whether one of the fields tells a length
abbrev pub has_length : List Field → Bool
has_length [] = false
has_length (number_field size ∷ fields) = has_length fields
has_length (address_field ∷ fields) = has_length fields
has_length (reserved_field size ∷ fields) = has_length fields
has_length (tvlv_length ∷ fields) = true
has_length (fragment_field ∷ fields) = has_length fields

-- whether fields tell one length at most, and numbers have known widths
abbrev pub are_fine : List Field → Bool
are_fine [] = true
are_fine (number_field size ∷ fields) = is_width size && are_fine fields
are_fine (address_field ∷ fields) = are_fine fields
are_fine (reserved_field size ∷ fields) = are_fine fields
are_fine (tvlv_length ∷ fields) = not (has_length fields) && are_fine fields
are_fine (fragment_field ∷ fields) = are_fine fields

-- bytes that begin with filled fields, whose head is read from them
pub record AreFilled (fields : List Field) (make : HeadFrom fields) (told : ℕ) (bytes : List ℕ) : Type 0 where
  pub values : Values fields
  pub others : List ℕ
  pub begin : BeginWith bytes (filled fields values told) others
  pub head_is : made fields make values ≡ head_in fields make bytes

both : (a b : Bool) → (a && b) ≡ true → (a ≡ true) × (b ≡ true)
both true true is = (refl, refl)
both true false is = absurd cc
both false b is = absurd cc

not_length : (b : Bool) → not b ≡ true → b ≡ true → ⊥
not_length true unset is_set = absurd cc
not_length false unset is_set = absurd cc

-- a part at the front
at_front : (size : ℕ) (bytes : List ℕ) (part : Part) → Holds (take size bytes) part → Fits part → BeginsWith bytes part (drop size bytes)
at_front size bytes part holds fits = record { front = take size bytes; holds = holds; fits = fits; parts = sym (take-append-drop size bytes) }

pub fields_filled : (fields : List Field) (make : HeadFrom fields) (told : ℕ) (bytes : List ℕ) → are_fine fields ≡ true
    → (has_length fields ≡ true → told ≡ told_in fields bytes) → AreBytes bytes → sum_by field_size fields ≤ length bytes → AreFilled fields make told bytes
fields_filled [] make told bytes fine agrees small whole = record { values = tt; others = bytes; begin = refl; head_is = refl }
fields_filled (number_field size ∷ fields) make told bytes fine agrees small whole =
    let parts = both (is_width size) (are_fine fields) fine in
    let size_is = sum_by-cons field_size (number_field size) fields in
    let value = big_number size bytes in
    let more = fields_filled fields (make value) told (drop size bytes) parts.1 agrees (All-drop (λ b. b < 2 ^ 8) size bytes small) (omega (arith, whole, size_is, length-drop size bytes)) in
    record {
      values = (value, more.values);
      others = more.others;
      begin = (drop size bytes, at_front size bytes (number size value) (number_back size parts.0 bytes small (omega (arith, whole, size_is))) (big_from-lt 0 size bytes (small_at bytes small)), more.begin);
      head_is = more.head_is;
    }
fields_filled (address_field ∷ fields) make told bytes fine agrees small whole =
    let size_is = sum_by-cons field_size address_field fields in
    let more = fields_filled fields (make (address_of bytes)) told (drop 6 bytes) fine agrees (All-drop (λ b. b < 2 ^ 8) 6 bytes small) (omega (arith, whole, size_is, length-drop 6 bytes)) in
    record {
      values = (address_of bytes, more.values);
      others = more.others;
      begin = (drop 6 bytes, at_front 6 bytes (address (address_of bytes)) refl (length-take-le 6 bytes (omega (arith, whole, size_is)), small_front 6 bytes small), more.begin);
      head_is = more.head_is;
    }
fields_filled (reserved_field size ∷ fields) make told bytes fine agrees small whole =
    let size_is = sum_by-cons field_size (reserved_field size) fields in
    let more = fields_filled fields make told (drop size bytes) fine agrees (All-drop (λ b. b < 2 ^ 8) size bytes small) (omega (arith, whole, size_is, length-drop size bytes)) in
    record {
      values = more.values;
      others = more.others;
      begin = (drop size bytes, at_front size bytes (reserved size) (length-take-le size bytes (omega (arith, whole, size_is))) tt, more.begin);
      head_is = more.head_is;
    }
fields_filled (tvlv_length ∷ fields) make told bytes fine agrees small whole =
    let parts = both (not (has_length fields)) (are_fine fields) fine in
    let size_is = sum_by-cons field_size tvlv_length fields in
    let told_is : told ≡ big_number 2 bytes = agrees refl in
    let more = fields_filled fields make told (drop 2 bytes) parts.1 (λ has. absurd (not_length (has_length fields) parts.0 has)) (All-drop (λ b. b < 2 ^ 8) 2 bytes small) (omega (arith, whole, size_is, length-drop 2 bytes)) in
    record {
      values = more.values;
      others = more.others;
      begin = (drop 2 bytes, at_front 2 bytes (number 2 told) (number_back 2 refl bytes small (omega (arith, whole, size_is)) ∙ ap (bytes_high_first 2) (sym told_is)) (omega (arith, told_is, big_from-lt 0 2 bytes (small_at bytes small))), more.begin);
      head_is = more.head_is;
    }
fields_filled (fragment_field ∷ fields) make told bytes fine agrees small whole =
    let size_is = sum_by-cons field_size fragment_field fields in
    let first = first_byte bytes (omega (arith, whole, size_is)) in
    let byte = big_number 1 bytes in
    let back = fragment_back byte (omega (arith, first.1, small_at bytes small 0)) in
    let more = fields_filled fields (make (byte / 16) (byte / 2 % 8)) told (drop 1 bytes) fine agrees (All-drop (λ b. b < 2 ^ 8) 1 bytes small) (omega (arith, whole, size_is, length-drop 1 bytes)) in
    record {
      values = (byte / 16, (byte / 2 % 8, more.values));
      others = more.others;
      begin = (drop 1 bytes, at_front 1 bytes (fragment (byte / 16) (byte / 2 % 8)) (byte % 2, omega arith, first.0 ∙ ap (λ (b : ℕ). b ∷ []) (sym first.1 ∙ sym back.0)) (back.1, back.2), more.begin);
      head_is = more.head_is;
    }

-- ---- shapes

-- a shape whose fields are fine, and whose heads have it
record IsSound (shape : Shape) : Type 0 where
  fine : are_fine shape.fields ≡ true
  header : (values : Values shape.fields) (told : ℕ) → header_of (made shape.fields shape.head values) told
      ≡ number 1 shape.kind ∷ number 1 compat_version ∷ filled shape.fields values told
  shape_is : (values : Values shape.fields) → (shape_of (made shape.fields shape.head values)).tail ≡ shape.tail
  tells : has_length shape.fields ≡ true → shape.tail ≡ containers

all_sound : AllByRecursion IsSound shapes
all_sound = (
  record { fine = refl; header = λ values told. refl; shape_is = λ values. refl; tells = λ has. refl },
  (
    record { fine = refl; header = λ values told. refl; shape_is = λ values. refl; tells = λ has. absurd cc },
    (
      record { fine = refl; header = λ values told. refl; shape_is = λ values. refl; tells = λ has. absurd cc },
      (
        record { fine = refl; header = λ values told. refl; shape_is = λ values. refl; tells = λ has. refl },
        (
          record { fine = refl; header = λ values told. refl; shape_is = λ values. refl; tells = λ has. absurd cc },
          (
            record { fine = refl; header = λ values told. refl; shape_is = λ values. refl; tells = λ has. absurd cc },
            (
              record { fine = refl; header = λ values told. refl; shape_is = λ values. refl; tells = λ has. absurd cc },
              (
                record { fine = refl; header = λ values told. refl; shape_is = λ values. refl; tells = λ has. absurd cc },
                (
                  record { fine = refl; header = λ values told. refl; shape_is = λ values. refl; tells = λ has. refl },
                  tt,
                ),
              ),
            ),
          ),
        ),
      ),
    ),
  ),
)

-- a shape that was found is sound, and is that of its type byte
record IsFound (kind : ℕ) (shape : Shape) : Type 0 where
  sound : IsSound shape
  kind_is : shape.kind ≡ kind

first_found : (test : Bool) (kind : ℕ) (front shape : Shape) (others : Option Shape) → (front.kind == kind) ≡ test → cond test (Some front) others ≡ Some shape
    → IsSound front → (others ≡ Some shape → IsFound kind shape) → IsFound kind shape
first_found true kind front shape others is found sound later =
    let same : front ≡ shape = cc in
    subst (IsFound kind) same (record { sound = sound; kind_is = eqb-to front.kind kind is })
first_found false kind front shape others is found sound later = later found

found_in : (kind : ℕ) (all : List Shape) (shape : Shape) → AllByRecursion IsSound all → find (λ one. one.kind == kind) all ≡ Some shape → IsFound kind shape
found_in kind [] shape sound is = absurd cc
found_in kind (front ∷ all) shape sound is =
    first_found (front.kind == kind) kind front shape (find (λ one. one.kind == kind) all) refl is sound.0 (found_in kind all shape sound.1)

-- what is known of bytes that hold a whole header of the shape that they tell
pub record HoldsHeader (bytes : List ℕ) (shape : Shape) (head : Head) (told : ℕ) : Type 0 where
  pub header : BeginWith bytes (header_of head told) (drop (header_size shape) bytes)
  pub tail_is : (shape_of head).tail ≡ shape.tail

pub whole_header : (kind : ℕ) (fields : List ℕ) (shape : Shape) (told : ℕ) → shape_of_type kind ≡ Some shape → AreBytes (kind ∷ compat_version ∷ fields)
    → (shape.tail ≡ containers → told ≡ told_in shape.fields fields) → sum_by field_size shape.fields ≤ length fields
    → HoldsHeader (kind ∷ compat_version ∷ fields) shape (head_in shape.fields shape.head fields) told
whole_header kind fields shape told is small agrees whole =
    let bytes = kind ∷ compat_version ∷ fields in
    let found = found_in kind shapes shape all_sound is in
    let kind_is = found.kind_is in
    let more = fields_filled shape.fields shape.head told fields found.sound.fine (λ has. agrees (found.sound.tells has)) (All-drop (λ b. b < 2 ^ 8) 2 bytes small) whole in
    let kind_small : kind < 256 = small 0 0 (omega arith) in
    let holds : kind ∷ [] ≡ bytes_high_first 1 shape.kind = let same : kind ≡ shape.kind % 256 = omega (arith, kind_is, kind_small) in ap (λ (b : ℕ). b ∷ []) same in
    let behind : more.others ≡ drop (header_size shape) bytes =
    others_behind fields (filled shape.fields more.values told) more.others more.begin ∙ ap (λ (n : ℕ). drop n fields) (filled_width shape.fields more.values told)
    ∙ drop-drop (sum_by field_size shape.fields) 2 bytes in
    let begins : BeginWith bytes (number 1 shape.kind ∷ number 1 compat_version ∷ filled shape.fields more.values told) more.others = (
      compat_version ∷ fields,
      record { front = kind ∷ []; holds = holds; fits = omega (arith, kind_is, kind_small); parts = refl },
      (fields, record { front = compat_version ∷ []; holds = refl; fits = omega arith; parts = refl }, more.begin),
    ) in
    let parts = found.sound.header more.values told in
    record {
      header = subst (λ (h : Head). BeginWith bytes (header_of h told) (drop (header_size shape) bytes)) more.head_is
          (subst (λ (ps : List Part). BeginWith bytes ps (drop (header_size shape) bytes)) (sym parts) (subst (BeginWith bytes (number 1 shape.kind ∷ number 1 compat_version ∷ filled shape.fields more.values told)) behind begins));
      tail_is = ap (λ (h : Head). (shape_of h).tail) (sym more.head_is) ∙ found.sound.shape_is more.values;
    }
