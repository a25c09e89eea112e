-- What is computed from bytes is right: the packet is one that they begin with, and a refusal is the first cause.
use Rattle.std.proofs.Common.{◌≡◌, ℕ, ◌-◌, ◌<◌, ◌≤◌, List, [], ◌∷◌, length, take, drop, refl, sym, ap, subst, ◌∙◌, arith, inl, inr, Bool, true, false, Option, Some, None, Result, Ok, Err}
use Rattle.std.specs.Prelude.{◌≢◌, ◌==◌, cond, nat_lt, slice_get, option_map, ◌⊎◌}
use Rattle.std.proofs.lemmas.Bool.Decides.{nat_tests}
use Rattle.std.proofs.lemmas.List.{length-drop, length-take-le, take-append-drop, drop_all}
use Rattle.mesh_model.specs.declared.link_frame.NoPacket.{NoPacket}
use Rattle.mesh_model.specs.declared.link_frame.NoPacket.TheVariants.{Short, Version, Kind, Length}
use Rattle.mesh_model.specs.Packets.Numbers.{compat_version}
use Rattle.mesh_model.specs.Packets.Shapes.{Shape, TailKind, header_size, shape_of_type}
use Rattle.mesh_model.specs.Packets.Shapes.TailKind.{containers, all_the_rest, nothing}
use Rattle.mesh_model.specs.Packets.Layout.{IsTail, IsPacket}
use Rattle.mesh_model.specs.Packets.FirstPacket.{Front, head_in, told_in, tail_length, packet_cut, packet_of_shape, first_packet}
use Rattle.mesh_laws.specs.Causes.{HasVersion, told_shape, IsShort, TellsTooMuch, HasNoPacket}
use Rattle.mesh_laws.specs.PacketLaws.{AreBytes, FoundPacketsAreRight, RefusalsAreFirst}
use Rattle.mesh_laws.proofs.NumberLemmas.{eqb-to}
use Rattle.mesh_laws.proofs.FoundLemmas.{whole_header}
use Rattle.mesh_laws.proofs.FrameLemmas.{first_choice, second_choice}
use Rattle.mesh_laws.proofs.FirstPacketLemmas.{first_packet-long, ltb-from_lt}

ltb-to_le : (a b : ℕ) → nat_lt a b ≡ false → b ≤ a
ltb-to_le a b is = grind (arith, nat_tests)

ltb-to_lt : (a b : ℕ) → nat_lt a b ≡ true → a < b
ltb-to_lt a b is = grind (arith, nat_tests)

eqb-from : (a b : ℕ) → a ≡ b → (a == b) ≡ true
eqb-from a b same = grind (arith, nat_tests)

eqb-from_not : (a b : ℕ) → (a ≡ b → ⊥) → (a == b) ≡ false
eqb-from_not a b other = grind (arith, nat_tests)

eqb-to_not : (a b : ℕ) → (a == b) ≡ false → a ≡ b → ⊥
eqb-to_not a b is same = grind (arith, nat_tests)

-- ---- a computed packet

-- the tail of a kind is cut as the kind asks
tail_cut : (kind : TailKind) (told : ℕ) (after : List ℕ)
    → IsTail kind (take (tail_length kind told (length after)) after) (drop (tail_length kind told (length after)) after)
tail_cut containers told after = tt
tail_cut all_the_rest told after = drop_all (length after) after (omega arith)
tail_cut nothing told after = refl

-- containers are as long as is told
told_length_is : (kind : TailKind) (told left len : ℕ) → len ≡ tail_length kind told left → kind ≡ containers → len ≡ told
told_length_is kind told left len len_is is = len_is ∙ ap (λ (k : TailKind). tail_length k told left) is

right_cut : (kind : ℕ) (fields : List ℕ) (shape : Shape) (front : Front) (len : ℕ) → shape_of_type kind ≡ Some shape → AreBytes (kind ∷ compat_version ∷ fields)
    → header_size shape ≤ length (kind ∷ compat_version ∷ fields)
    → len ≡ tail_length shape.tail (told_in shape.fields fields) (length (drop (header_size shape) (kind ∷ compat_version ∷ fields)))
    → packet_cut (head_in shape.fields shape.head fields) len (drop (header_size shape) (kind ∷ compat_version ∷ fields)) ≡ Ok front
    → IsPacket (kind ∷ compat_version ∷ fields) front.packet.head front.packet.tail (length (kind ∷ compat_version ∷ fields) - length front.rest)
right_cut kind fields shape front len is small whole len_is cut =
    let bytes = kind ∷ compat_version ∷ fields in
    let after = drop (header_size shape) bytes in
    let head = head_in shape.fields shape.head fields in
    let chosen = second_choice (nat_lt (length after) len) _ _ front cut in
    let enough = ltb-to_le (length after) len chosen.0 in
    let tail_len : length (take len after) ≡ len = length-take-le len after enough in
    let same : record { packet = record { head = head; tail = take len after }; rest = drop len after } ≡ front = let e = chosen.1 in cc in
    let holds = whole_header kind fields shape (length (take len after)) is small
    (λ are. tail_len ∙ told_length_is shape.tail (told_in shape.fields fields) (length after) len len_is are) (omega (arith, whole)) in
    subst (λ (f : Front). IsPacket bytes f.packet.head f.packet.tail (length bytes - length f.rest)) same (record {
      rest = drop len after;
      header = rw take-append-drop holds.header;
      tail_is = rw (holds.tail_is, len_is) (tail_cut shape.tail (told_in shape.fields fields) after);
      used_is = omega (arith, length-drop len after, length-drop (header_size shape) bytes);
    })

right_shape : (kind : ℕ) (fields : List ℕ) (known : Option Shape) (front : Front) → shape_of_type kind ≡ known → AreBytes (kind ∷ compat_version ∷ fields)
    → packet_of_shape kind known (kind ∷ compat_version ∷ fields) ≡ Ok front
    → IsPacket (kind ∷ compat_version ∷ fields) front.packet.head front.packet.tail (length (kind ∷ compat_version ∷ fields) - length front.rest)
right_shape kind fields None front is small found = absurd cc
right_shape kind fields (Some shape) front is small found =
    let chosen = second_choice (nat_lt (length (kind ∷ compat_version ∷ fields)) (header_size shape)) _ _ front found in
    right_cut kind fields shape front _ is small (ltb-to_le (length (kind ∷ compat_version ∷ fields)) (header_size shape) chosen.0) refl chosen.1

pub found_right : FoundPacketsAreRight
unfolding first_packet
found_right [] front small found = absurd cc
found_right (kind ∷ []) front small found = absurd cc
found_right (kind ∷ version ∷ fields) front small found =
    let bytes = kind ∷ version ∷ fields in
    let chosen = first_choice (version == compat_version) (packet_of_shape kind (shape_of_type kind) bytes) (Version version) front found in
    let is : version ≡ compat_version = eqb-to version compat_version chosen.0 in
    let P : ℕ → Type 0 = λ v. IsPacket (kind ∷ v ∷ fields) front.packet.head front.packet.tail (length (kind ∷ v ∷ fields) - length front.rest) in
    let small_same : AreBytes (kind ∷ compat_version ∷ fields) = subst (λ (v : ℕ). AreBytes (kind ∷ v ∷ fields)) is small in
    let found_same : packet_of_shape kind (shape_of_type kind) (kind ∷ compat_version ∷ fields) ≡ Ok front =
    subst (λ (v : ℕ). packet_of_shape kind (shape_of_type kind) (kind ∷ v ∷ fields) ≡ Ok front) is chosen.1 in
    subst P (sym is) (right_shape kind fields (shape_of_type kind) front refl small_same found_same)

-- ---- a computed refusal

-- the tail that is longer than the bytes left is one of containers
too_long : (kind : TailKind) (told left : ℕ) → left < tail_length kind told left → (kind ≡ containers) × (tail_length kind told left ≡ told)
too_long containers told left more = (refl, refl)
too_long all_the_rest told left more = absurd (omega (arith, more))
too_long nothing told left more = absurd (omega (arith, more))

-- the cause by another name
renamed : (bytes : List ℕ) (cause other : NoPacket) → HasNoPacket bytes cause → cause ≡ other → HasNoPacket bytes other
renamed bytes cause other has same = subst (HasNoPacket bytes) same has

-- a choice that is a refusal
refused_then : {A : Type 0} (b : Bool) (x : Result A NoPacket) (cause e : NoPacket) → cond b x (Err e) ≡ Err cause
    → ((b ≡ false) × (e ≡ cause)) ⊎ ((b ≡ true) × (x ≡ Err cause))
refused_then true x cause e is = inr (refl, is)
refused_then false x cause e is = inl (refl, cc)

refused_else : {A : Type 0} (b : Bool) (x : Result A NoPacket) (cause e : NoPacket) → cond b (Err e) x ≡ Err cause
    → ((b ≡ true) × (e ≡ cause)) ⊎ ((b ≡ false) × (x ≡ Err cause))
refused_else true x cause e is = inl (refl, cc)
refused_else false x cause e is = inr (refl, is)

no_refusal : {A : Type 0} (b : Bool) (y : A) (cause e : NoPacket) → cond b (Err e) (Ok y) ≡ Err cause → (b ≡ true) × (e ≡ cause)
no_refusal true y cause e is = (refl, cc)
no_refusal false y cause e is = absurd cc

first_cut : (kind : ℕ) (fields : List ℕ) (shape : Shape) (cause : NoPacket) (len : ℕ) → shape_of_type kind ≡ Some shape → AreBytes (kind ∷ compat_version ∷ fields)
    → header_size shape ≤ length (kind ∷ compat_version ∷ fields)
    → len ≡ tail_length shape.tail (told_in shape.fields fields) (length (drop (header_size shape) (kind ∷ compat_version ∷ fields)))
    → packet_cut (head_in shape.fields shape.head fields) len (drop (header_size shape) (kind ∷ compat_version ∷ fields)) ≡ Err cause
    → HasNoPacket (kind ∷ compat_version ∷ fields) cause
first_cut kind fields shape cause len is small whole len_is cut =
    let bytes = kind ∷ compat_version ∷ fields in
    let after = drop (header_size shape) bytes in
    let told = told_in shape.fields fields in
    let chosen = no_refusal (nat_lt (length after) len) _ cause _ cut in
    let more = ltb-to_lt (length after) len chosen.0 in
    let long = too_long shape.tail told (length after) (omega (arith, more, len_is)) in
    let len_told : len ≡ told = len_is ∙ long.1 in
    let holds = whole_header kind fields shape len is small (λ are. len_told) (omega (arith, whole)) in
    renamed bytes (Length len (length after)) cause (record {
      head = head_in shape.fields shape.head fields;
      after = after;
      header = holds.header;
      tail_is = holds.tail_is ∙ long.0;
      left_is = refl;
      more = more;
    }) chosen.1

first_shape : (kind : ℕ) (fields : List ℕ) (known : Option Shape) (cause : NoPacket) → shape_of_type kind ≡ known → AreBytes (kind ∷ compat_version ∷ fields)
    → packet_of_shape kind known (kind ∷ compat_version ∷ fields) ≡ Err cause → HasNoPacket (kind ∷ compat_version ∷ fields) cause
first_shape kind fields None cause is small refused =
    renamed (kind ∷ compat_version ∷ fields) (Kind kind) cause (refl, refl, is) (cc)
first_shape kind fields (Some shape) cause is small refused =
    let bytes = kind ∷ compat_version ∷ fields in
    let size = header_size shape in
    elim (refused_else (nat_lt (length bytes) size) _ cause _ refused) [
      | inl short ↦ renamed bytes (Short (length bytes) size) cause (record {
        have_is = refl;
        needed = inr (refl, ap (option_map header_size) is);
        fewer = ltb-to_lt (length bytes) size short.0;
      }) short.1
      | inr whole ↦ first_cut kind fields shape cause _ is small (ltb-to_le (length bytes) size whole.0) refl whole.1
    ]

refusal_first : (bytes : List ℕ) (cause : NoPacket) → AreBytes bytes → first_packet bytes ≡ Err cause → HasNoPacket bytes cause
unfolding first_packet
refusal_first [] cause small refused =
    renamed [] (Short 0 2) cause (record { have_is = refl; needed = inl refl; fewer = omega arith }) (cc)
refusal_first (kind ∷ []) cause small refused =
    renamed (kind ∷ []) (Short 1 2) cause (record { have_is = refl; needed = inl refl; fewer = omega arith }) (cc)
refusal_first (kind ∷ version ∷ fields) cause small refused =
    let bytes = kind ∷ version ∷ fields in
    elim (refused_then (version == compat_version) (packet_of_shape kind (shape_of_type kind) bytes) cause (Version version) refused) [
      | inl other ↦ renamed bytes (Version version) cause (refl, eqb-to_not version compat_version other.0) other.1
      | inr same ↦
          let is : version ≡ compat_version = eqb-to version compat_version same.0 in
          subst (λ (v : ℕ). HasNoPacket (kind ∷ v ∷ fields) cause) (sym is) (first_shape kind fields (shape_of_type kind) cause refl
          (subst (λ (v : ℕ). AreBytes (kind ∷ v ∷ fields)) is small)
          (subst (λ (v : ℕ). packet_of_shape kind (shape_of_type kind) (kind ∷ v ∷ fields) ≡ Err cause) is same.1))
    ]

-- ---- a cause is computed

-- bytes with the right version are read by their shape
of_shape : (kind version : ℕ) (fields : List ℕ) (known : Option Shape) → version ≡ compat_version → shape_of_type kind ≡ known
    → first_packet (kind ∷ version ∷ fields) ≡ packet_of_shape kind known (kind ∷ version ∷ fields)
unfolding first_packet
of_shape kind version fields known same is = rw (eqb-from version compat_version same, is) refl

-- one byte, or none
too_few : (bytes : List ℕ) → length bytes < 2 → first_packet bytes ≡ Err (Short (length bytes) 2)
unfolding first_packet
too_few [] few = refl
too_few (kind ∷ []) few = refl
too_few (kind ∷ version ∷ fields) few = absurd (omega (arith, few))

-- a header that isn't whole
short_header : (bytes : List ℕ) (known : Option Shape) (need : ℕ) → HasVersion bytes → told_shape bytes ≡ known → option_map header_size known ≡ Some need
    → length bytes < need → first_packet bytes ≡ Err (Short (length bytes) need)
short_header [] known need version told size few = absurd cc
short_header (a ∷ []) known need version told size few = absurd cc
short_header (a ∷ b ∷ fields) None need version told size few = absurd cc
short_header (a ∷ b ∷ fields) (Some shape) need version told size few =
    let need_is : header_size shape ≡ need = cc in
    of_shape a b fields (Some shape) (cc) told ∙ rw (ltb-from_lt (length (a ∷ b ∷ fields)) (header_size shape) (omega (arith, few, need_is))) (ap (λ (n : ℕ). Err (Short (length (a ∷ b ∷ fields)) n)) need_is)

short_is_computed : (bytes : List ℕ) (have need : ℕ) → IsShort bytes have need → first_packet bytes ≡ Err (Short have need)
short_is_computed bytes have need short = rw short.have_is (elim short.needed [
  | inl two ↦ rw two (too_few bytes (omega (arith, two, short.have_is, short.fewer)))
  | inr told ↦ short_header bytes (told_shape bytes) need told.0 refl told.1 (omega (arith, short.have_is, short.fewer))
])

version_is_computed : (bytes : List ℕ) (version : ℕ) → slice_get bytes 1 ≡ Some version → version ≢ compat_version → first_packet bytes ≡ Err (Version version)
unfolding first_packet
version_is_computed [] version is other = absurd cc
version_is_computed (a ∷ []) version is other = absurd cc
version_is_computed (a ∷ b ∷ fields) version is other =
    let same : b ≡ version = cc in rw (same, eqb-from_not version compat_version other) refl

kind_is_computed : (bytes : List ℕ) (kind : ℕ) → HasVersion bytes → slice_get bytes 0 ≡ Some kind → shape_of_type kind ≡ None → first_packet bytes ≡ Err (Kind kind)
kind_is_computed [] kind version first none = absurd cc
kind_is_computed (a ∷ []) kind version first none = absurd cc
kind_is_computed (a ∷ b ∷ fields) kind version first none =
    let byte : a ≡ kind = cc in
    of_shape a b fields None (cc) (rw byte none) ∙ ap (λ (k : ℕ). Err (Kind k)) byte

length_is_computed : (bytes : List ℕ) (told left : ℕ) → TellsTooMuch bytes told left → first_packet bytes ≡ Err (Length told left)
length_is_computed bytes told left much =
    first_packet-long bytes much.head told much.after much.header much.tail_is (omega (arith, much.left_is, much.more)) ∙ ap (λ (n : ℕ). Err (Length told n)) (sym much.left_is)

-- a first cause is computed
pub cause_is_computed : (bytes : List ℕ) (cause : NoPacket) → HasNoPacket bytes cause → first_packet bytes ≡ Err cause
cause_is_computed bytes (Short have need) has = short_is_computed bytes have need has
cause_is_computed bytes (Version version) has = version_is_computed bytes version has.0 has.1
cause_is_computed bytes (Kind kind) has = kind_is_computed bytes kind has.0 has.1 has.2
cause_is_computed bytes (Length told left) has = length_is_computed bytes told left has

pub refusals_first : RefusalsAreFirst
refusals_first bytes cause small = (refusal_first bytes cause small, cause_is_computed bytes cause)
