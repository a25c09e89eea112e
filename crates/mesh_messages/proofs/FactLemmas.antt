-- The facts that bytes are, one after the other.
use Rattle.std.proofs.Common.{◌≡◌, ◌≢◌, ℕ, zero, suc, ◌+◌, ◌≤◌, ◌<◌, List, [], ◌∷◌, length, drop, refl, sym, ap, ◌∙◌, subst, arith, Bool, true, false, if◌then◌else◌, Option, Some, None, IsTrue, length-drop}
use Rattle.std.specs.Prelude.{nat_lt, ◌==◌, is_some, unwrap_or}
use Rattle.std.proofs.lemmas.Bool.Decides.{nat_tests}
use Rattle.mesh_model.specs.declared.service.Fact.{Fact}
use Rattle.mesh_model.specs.Packets.FactMessages.{fact_before, fact_head, facts_of, facts_within, front_fact, told_bytes}
use Rattle.mesh_messages.specs.Facts.{IsFront, facts_read}

-- what is behind the first fact of bytes
abbrev behind : List ℕ → List ℕ
behind bytes = drop (fact_head + told_bytes bytes) bytes

-- the facts that bytes are, of which these come behind the first
abbrev facts_by : List ℕ → Option (List Fact) → Option (List Fact)
facts_by bytes rest = if length bytes == 0 then Some []
    else if nat_lt (length bytes) (fact_head + told_bytes bytes) then None
    else fact_before (front_fact bytes) rest

-- how many facts may be read doesn't count, where there are as many as bytes
same_within : (more others : ℕ) (bytes : List ℕ) → length bytes ≤ more → length bytes ≤ others → facts_within more bytes ≡ facts_within others bytes
unfolding facts_within
same_within zero others [] few less = elim others as (λ (n : ℕ). Some [] ≡ facts_within n []) [ zero ↦ refl | suc n ↦ refl ]
same_within zero others (byte ∷ bytes) few less = absurd (omega (arith, few))
same_within (suc more) zero [] few less = refl
same_within (suc more) zero (byte ∷ bytes) few less = absurd (omega (arith, less))
same_within (suc more) (suc others) bytes few less =
    ap (facts_by bytes) (same_within more others (behind bytes)
    (omega (arith, few, length-drop (fact_head + told_bytes bytes) bytes))
    (omega (arith, less, length-drop (fact_head + told_bytes bytes) bytes)))

-- the facts of bytes by those behind the first
facts-first : (bytes : List ℕ) → facts_of bytes ≡ facts_by bytes (facts_of (behind bytes))
unfolding facts_within
facts-first [] = refl
facts-first (byte ∷ bytes) =
    let all = byte ∷ bytes in
    ap (facts_by all) (same_within (length bytes) (length (behind all)) (behind all)
    (omega (arith, length-drop (fact_head + told_bytes all) all)) (omega arith))

-- a whole fact in front
pub front_whole : (bytes : List ℕ) → fact_head + told_bytes bytes ≤ length bytes → IsFront bytes (front_fact bytes) (behind bytes)
front_whole bytes whole =
    let some : (length bytes == 0) ≡ false = grind (arith, nat_tests, whole) in
    let fits : nat_lt (length bytes) (fact_head + told_bytes bytes) ≡ false = grind (arith, nat_tests, whole) in
    let rest = fact_before (front_fact bytes) (facts_of (behind bytes)) in
    record {
      facts = facts-first bytes
          ∙ ap (λ (b : Bool). if b then Some [] else if nat_lt (length bytes) (fact_head + told_bytes bytes) then None else rest) some
          ∙ ap (λ (b : Bool). if b then None else rest) fits;
      shorter = omega (arith, whole, length-drop (fact_head + told_bytes bytes) bytes);
    }

-- no whole fact in front of some bytes
pub front_cut : (bytes : List ℕ) → length bytes < fact_head + told_bytes bytes → bytes ≢ [] → facts_of bytes ≡ None
front_cut [] cut some = absurd (some refl)
front_cut (byte ∷ bytes) cut some =
    let all = byte ∷ bytes in
    let full : (length all == 0) ≡ false = grind (arith, nat_tests) in
    let short : nat_lt (length all) (fact_head + told_bytes all) ≡ true = grind (arith, nat_tests, cut) in
    let rest = fact_before (front_fact all) (facts_of (behind all)) in
    facts-first all
    ∙ ap (λ (b : Bool). if b then Some [] else if nat_lt (length all) (fact_head + told_bytes all) then None else rest) full
    ∙ ap (λ (b : Bool). if b then None else rest) short

-- a whole fact in front, by its bytes and what is behind it
pub front_is : (bytes : List ℕ) (fact : Fact) (rest : List ℕ) → fact_head + told_bytes bytes ≤ length bytes → fact ≡ front_fact bytes → rest ≡ behind bytes → IsFront bytes fact rest
front_is bytes fact rest whole is behind_is =
    subst (λ (r : List ℕ). IsFront bytes fact r) (sym behind_is) (subst (λ (f : Fact). IsFront bytes f (behind bytes)) (sym is) (front_whole bytes whole))

-- bytes that are facts, and begin with none, are none
pub none_left : (bytes : List ℕ) → IsTrue (is_some (facts_of bytes)) → (bytes ≢ [] → facts_of bytes ≡ None) → facts_read bytes ≡ []
unfolding facts_within
none_left [] are none = refl
none_left (byte ∷ bytes) are none =
    let is : facts_of (byte ∷ bytes) ≡ None = none (λ same. cc) in
    ap (λ (o : Option (List Fact)). unwrap_or o []) is

-- no bytes are facts
pub none_are_facts : (bytes : List ℕ) → length bytes ≡ 0 → is_some (facts_of bytes) ≡ true
unfolding facts_within
none_are_facts [] none = refl
none_are_facts (byte ∷ bytes) none = absurd (omega (arith, none))
