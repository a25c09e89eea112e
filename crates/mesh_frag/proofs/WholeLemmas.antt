-- What the fragments of one cut make whole.
use Rattle.std.proofs.Common.{◌≡◌, ◌<◌, ◌≤◌, ◌+◌, ◌-◌, ◌*◌, ◌⊎◌, inl, inr, ℕ, zero, suc, Bool, true, false, cond, nat_eq, nat_lt, List, [], ◌∷◌, ◌++◌, length, take, slice_get, Option, None, Some, IfSome, IsSomeAnd, is_some, option_map, option_and_then, unwrap_or, refl, sym, ap, ap₂, ◌∙◌, subst, arith, take-add, take_all}
use Rattle.std.specs.Map.{lookup}
use Rattle.std.specs.Option.{option_or}
use Rattle.std.proofs.lemmas.Bool.{false≢true, cases_lt, eqb-true}
use Rattle.std.proofs.lemmas.List.{length-take}
use Rattle.std.proofs.lemmas.Option.{same_Some, slice_get_past}
use Rattle.mesh_model.specs.Fragments.Assembly.{Assembly, PartCall, assembly, bytes_below, goes_to, if_not_whole, if_so_many, made_whole, new_assembly, whole_at, whole_of, whole_within, with_part}
use Rattle.mesh_model.specs.Fragments.Cutting.{Cut, Reach, fragment_count, fragments_within, reach_of, tail_size}
use Rattle.mesh_frag.specs.Frags.{part_of_head}
use Rattle.mesh_frag.specs.Laws.{AreFragments, IsFragment, OnlyWhole, is_of_cut}
use Rattle.mesh_frag.proofs.CutLemmas.{count_is, fragment_at, piece_at}

-- ---- a fragment
-- the tail of the fragment of a cut at a place
abbrev pub tail_of : Cut → ℕ → List ℕ
tail_of cut place = piece_at (tail_size cut.most) cut.packet place

-- the part at a moment that is the fragment of a cut at a place
abbrev pub part_at : Cut → ℕ → ℕ → PartCall
part_at cut now place = record {
  moment = now;
  orig = cut.me;
  seq = cut.number;
  total = length cut.packet;
  place = place;
  tail = tail_of cut place;
}

-- a part that is a fragment is the one at its place, which the cut has
pub fragment_is : (cut : Cut) (call : PartCall) → IsFragment cut call → (call.place < fragment_count cut.most cut.packet) × (part_at cut call.moment call.place ≡ call)
fragment_is cut call = go (reach_of cut.packet)
  where
    go : (reach : Option Reach) → IsSomeAnd (slice_get (fragments_within cut reach) call.place) (λ fragment. part_of_head call.moment fragment.0 fragment.1 ≡ Some call)
        → (call.place < fragment_count cut.most cut.packet) × (part_at cut call.moment call.place ≡ call)
    go None is = absurd is
    go (Some reach) is = here (cases_lt call.place (fragment_count cut.most cut.packet))
      where
        here : (call.place < fragment_count cut.most cut.packet) ⊎ (fragment_count cut.most cut.packet ≤ call.place) → (call.place < fragment_count cut.most cut.packet) × (part_at cut call.moment call.place ≡ call)
        here (inl lt) = (lt, same_Some _ _ (subst (λ o. IsSomeAnd o (λ fragment. part_of_head call.moment fragment.0 fragment.1 ≡ Some call)) (fragment_at cut reach call.place lt) is))
        here (inr ge) = absurd (subst (λ o. IsSomeAnd o (λ fragment. part_of_head call.moment fragment.0 fragment.1 ≡ Some call)) (slice_get_past (fragments_within cut (Some reach)) call.place (omega (arith, ge, count_is cut reach))) is)

-- ---- parts
-- the parts that came, by place
abbrev Tails : Type 0
Tails = List (ℕ × List ℕ)

lookup-append : (test : ℕ → Bool) (front back : Tails) → lookup test (front ++ back) ≡ option_or (lookup test front) (lookup test back)
lookup-append test [] back = refl
lookup-append test (e ∷ front) back =
    elim (test e.0) as (λ b. cond b (Some e.1) (lookup test (front ++ back)) ≡ option_or (cond b (Some e.1) (lookup test front)) (lookup test back)) [
      | true ↦ refl
      | false ↦ lookup-append test front back
    ]

-- what is found of a place with a part
pub found_with : (q place : ℕ) (tail : List ℕ) (before : Assembly) → lookup (nat_eq q) (with_part place tail before).parts ≡ option_or (lookup (nat_eq q) before.parts) (cond (nat_eq q place) (Some tail) None)
found_with q place tail before = go (lookup (nat_eq place) before.parts) refl
  where
    same : (b : Bool) → nat_eq q place ≡ b → is_some (lookup (nat_eq place) before.parts) ≡ true → lookup (nat_eq q) before.parts ≡ option_or (lookup (nat_eq q) before.parts) (cond b (Some tail) None)
    same true is some =
        subst (λ n. lookup (nat_eq n) before.parts ≡ option_or (lookup (nat_eq n) before.parts) (Some tail)) (sym (eqb-true q place is))
        (there (lookup (nat_eq place) before.parts) some)
      where
        there : (o : Option (List ℕ)) → is_some o ≡ true → o ≡ option_or o (Some tail)
        there None some = absurd (false≢true some)
        there (Some other) some = refl
    same false is some = alone (lookup (nat_eq q) before.parts)
      where
        alone : (o : Option (List ℕ)) → o ≡ option_or o None
        alone None = refl
        alone (Some other) = refl

    go : (kept : Option (List ℕ)) → lookup (nat_eq place) before.parts ≡ kept → lookup (nat_eq q) (cond (is_some kept) before (record before { parts = before.parts ++ (place, tail) ∷ [] })).parts
        ≡ option_or (lookup (nat_eq q) before.parts) (cond (nat_eq q place) (Some tail) None)
    go None is = lookup-append (nat_eq q) before.parts ((place, tail) ∷ [])
    go (Some other) is = same (nat_eq q place) refl (ap is_some is)

-- all tails are those of the fragments of a cut
abbrev pub HasTailsOf : Cut → Tails → Type 0
HasTailsOf cut parts = (place : ℕ) → IfSome (lookup (nat_eq place) parts) (λ tail. tail ≡ tail_of cut place)

-- with one of these more they still are
pub one_more_of : (cut : Cut) (before : Assembly) (place : ℕ) → HasTailsOf cut before.parts → HasTailsOf cut (with_part place (tail_of cut place) before).parts
one_more_of cut before place has q =
    subst (λ o. IfSome o (λ tail. tail ≡ tail_of cut q)) (sym (found_with q place (tail_of cut place) before))
    (go (lookup (nat_eq q) before.parts) (has q) (nat_eq q place) refl)
  where
    go : (o : Option (List ℕ)) → IfSome o (λ tail. tail ≡ tail_of cut q) → (b : Bool) → nat_eq q place ≡ b → IfSome (option_or o (cond b (Some (tail_of cut place)) None)) (λ tail. tail ≡ tail_of cut q)
    go None has true is = ap (tail_of cut) (sym (eqb-true q place is))
    go None has false is = tt
    go (Some tail) has b is = has

-- the bytes of the first places are the first of the packet
pub first_bytes : (cut : Cut) (parts : Tails) → HasTailsOf cut parts → (count : ℕ) (bytes : List ℕ) → bytes_below parts count ≡ Some bytes → bytes ≡ take (count * tail_size cut.most) cut.packet
first_bytes cut parts has zero bytes is =
    let none : 0 ≡ 0 * tail_size cut.most = omega arith in
    sym (same_Some [] bytes is) ∙ ap (λ n. take n cut.packet) none
first_bytes cut parts has (suc count) bytes is = go (bytes_below parts count) refl (lookup (nat_eq count) parts) (has count) is (first_bytes cut parts has count)
  where
    go : (below : Option (List ℕ)) → bytes_below parts count ≡ below → (tail : Option (List ℕ)) → IfSome tail (λ t. t ≡ tail_of cut count)
        → option_and_then (λ b. option_map (λ t. b ++ t) tail) below ≡ Some bytes → ((b : List ℕ) → bytes_below parts count ≡ Some b → b ≡ take (count * tail_size cut.most) cut.packet)
        → bytes ≡ take (suc count * tail_size cut.most) cut.packet
    go None there tail of is rest = absurd cc
    go (Some b) there None of is rest = absurd cc
    go (Some b) there (Some t) of is rest =
        let more : count * tail_size cut.most + tail_size cut.most ≡ suc count * tail_size cut.most = omega arith in
        sym (same_Some (b ++ t) bytes is)
        ∙ ap₂ (λ x y. x ++ y) (rest b there) of
        ∙ sym (take-add (count * tail_size cut.most) (tail_size cut.most) cut.packet)
        ∙ ap (λ n. take n cut.packet) more

-- ---- the packet alone
module _ (cut : Cut) where
  -- where they are as long as the packet, they are the packet
  as_long_as_packet : (n : ℕ) → length (take n cut.packet) ≡ length cut.packet → take n cut.packet ≡ cut.packet
  as_long_as_packet n same = take_all n cut.packet (omega (arith, same, length-take n cut.packet))

  module _ (parts : Tails) (has : HasTailsOf cut parts) (bytes : List ℕ) where
    whole_at_is : (count : ℕ) → whole_at (length cut.packet) parts count ≡ Some bytes → bytes ≡ cut.packet
    whole_at_is count is = go (bytes_below parts count) refl is
      where
        so_many : (b : List ℕ) → b ≡ take (count * tail_size cut.most) cut.packet → (same : Bool) → nat_eq (length b) (length cut.packet) ≡ same → cond same (Some b) None ≡ Some bytes → bytes ≡ cut.packet
        so_many b front true same is =
            sym (same_Some b bytes is) ∙ front
            ∙ as_long_as_packet (count * tail_size cut.most) (ap length (sym front) ∙ eqb-true (length b) (length cut.packet) same)
        so_many b front false same is = absurd cc

        go : (below : Option (List ℕ)) → bytes_below parts count ≡ below → option_and_then (if_so_many (length cut.packet)) below ≡ Some bytes → bytes ≡ cut.packet
        go None there is = absurd cc
        go (Some b) there is = so_many b (first_bytes cut parts has count b there) (nat_eq (length b) (length cut.packet)) refl is

    whole_within_is : (count : ℕ) → whole_within (length cut.packet) parts count ≡ Some bytes → bytes ≡ cut.packet
    whole_within_is zero is = absurd cc
    whole_within_is (suc count) is = go (whole_within (length cut.packet) parts count) refl is (whole_within_is count)
      where
        go : (before : Option (List ℕ)) → whole_within (length cut.packet) parts count ≡ before → option_or before (whole_at (length cut.packet) parts (suc count)) ≡ Some bytes
            → (whole_within (length cut.packet) parts count ≡ Some bytes → bytes ≡ cut.packet) → bytes ≡ cut.packet
        go None there is rest = whole_at_is (suc count) is
        go (Some other) there is rest = rest (there ∙ is)

    -- what fragments of the cut make whole is its packet
    pub whole_is : whole_of (length cut.packet) parts ≡ Some bytes → bytes ≡ cut.packet
    unfolding whole_of
    whole_is is = whole_within_is 16 is

  -- so they are in the assembly that a part goes to
  pub has_then : (now : ℕ) (before : Option Assembly) → IfSome before (λ assembly. HasTailsOf cut assembly.parts) → HasTailsOf cut (goes_to now before).parts
  has_then now None has = λ place. tt
  has_then now (Some assembly) has =
      elim (nat_lt (now - assembly.opened) 10000) as (λ b. HasTailsOf cut (unwrap_or (cond b (Some assembly) None) (new_assembly now)).parts) [
        | true ↦ has
        | false ↦ λ place. tt
      ]

  -- in what is open of the cut all tails are its
  pub kept_tails : (older : List PartCall) → AreFragments cut older → IfSome (assembly older cut.me cut.number (length cut.packet)) (λ assembly. HasTailsOf cut assembly.parts)
  kept_tails [] are = tt
  kept_tails (call ∷ older) are = go (is_of_cut cut call) refl are.0 (kept_tails older are.1)
    where
      go : (b : Bool) → is_of_cut cut call ≡ b → (is_of_cut cut call ≡ true → IsFragment cut call) → IfSome (assembly older cut.me cut.number (length cut.packet)) (λ assembly. HasTailsOf cut assembly.parts)
          → IfSome (cond b (if_not_whole (length cut.packet) (with_part call.place call.tail (goes_to call.moment (assembly older cut.me cut.number (length cut.packet))))) (assembly older cut.me cut.number (length cut.packet)))
          (λ assembly. HasTailsOf cut assembly.parts)
      go true is of rest =
          let gone : Assembly = with_part call.place call.tail (goes_to call.moment (assembly older cut.me cut.number (length cut.packet))) in
          let tail : tail_of cut call.place ≡ call.tail = ap (λ (c : PartCall). c.tail) (fragment_is cut call (of is)).1 in
          let has : HasTailsOf cut gone.parts
          = subst (λ t. HasTailsOf cut (with_part call.place t (goes_to call.moment (assembly older cut.me cut.number (length cut.packet)))).parts) tail
          (one_more_of cut (goes_to call.moment (assembly older cut.me cut.number (length cut.packet))) call.place (has_then call.moment (assembly older cut.me cut.number (length cut.packet)) rest)) in
          elim (is_some (whole_of (length cut.packet) gone.parts)) as (λ b. IfSome (cond b None (Some gone)) (λ assembly. HasTailsOf cut assembly.parts)) [ true ↦ tt | false ↦ has ]
      go false is of rest = rest

pub only_whole : OnlyWhole
only_whole cut call older bytes is are made =
    let before = assembly older cut.me cut.number (length cut.packet) in
    whole_is cut (with_part call.place (tail_of cut call.place) (goes_to call.moment before)).parts
    (one_more_of cut (goes_to call.moment before) call.place (has_then cut call.moment before (kept_tails cut older are))) bytes
    (subst (λ c. made_whole c older ≡ Some bytes) (sym (fragment_is cut call is).1) made)
