-- What the parts that are kept of a transaction say of its facts.
use Rattle.std.proofs.Common.{◌≡◌, ◌<◌, ◌≤◌, ◌+◌, ◌⊎◌, inl, inr, ℕ, zero, suc, Bool, true, false, cond, nat_eq, List, [], ◌∷◌, ◌++◌, Option, None, Some, IfSome, IsSome, IsSomeAnd, is_some, option_map, option_and_then, refl, sym, ap, ap₂, ◌∙◌, subst, arith, add-one, ◌^◌, length}
use Rattle.std.specs.List.{IsDistinct}
use Rattle.std.specs.Map.{keys_of, lookup}
use Rattle.std.proofs.lemmas.Bool.{false≢true, cases_lt, eqb-true, eq-eqb, ne_eqb, eqb-false}
use Rattle.std.proofs.lemmas.List.{map-append}
use Rattle.std.proofs.lemmas.Map.Entries.{length-keys_of}
use Rattle.std.proofs.lemmas.Map.Made.{is_some-lookup}
use Rattle.std.proofs.lemmas.Map.Steps.{length-le_from_distinct_below}
use Rattle.std.proofs.lemmas.Option.{IfSome_then}
use Rattle.mesh_model.specs.declared.service.Fact.{Fact}
use Rattle.mesh_model.specs.Services.Transactions.{Part, facts_below, part_at}
use Rattle.alfred_core.specs.Kept.{ArePartsWithout, kept_part, parts_in}

-- a part of a number
abbrev part_of : ℕ → List Fact → Part
part_of number facts = record { number = number; facts = facts }

-- the part of a number is the one that is kept of it
pub part_kept : (number : ℕ) (kept : List (ℕ × List Fact)) → part_at (parts_in kept) number ≡ option_map (part_of number) (lookup (nat_eq number) kept)
part_kept number [] = refl
part_kept number (e ∷ kept) = go (nat_eq number e.0) refl (part_kept number kept)
  where
    go : (b : Bool) → nat_eq number e.0 ≡ b → part_at (parts_in kept) number ≡ option_map (part_of number) (lookup (nat_eq number) kept)
        → cond (nat_eq e.0 number) (Some (kept_part e)) (part_at (parts_in kept) number) ≡ option_map (part_of number) (cond b (Some e.1) (lookup (nat_eq number) kept))
    go true is rest = subst (λ n. cond (nat_eq e.0 n) (Some (kept_part e)) (part_at (parts_in kept) n) ≡ Some (part_of n e.1)) (sym (eqb-true number e.0 is))
        (ap (λ b. cond b (Some (kept_part e)) (part_at (parts_in kept) e.0)) (eq-eqb e.0 e.0 refl))
    go false other rest = ap₂ (λ b part. cond b (Some (kept_part e)) part) (ne_eqb e.0 number (λ is. eqb-false number e.0 other (sym is))) rest

-- the facts of some parts with one more, where all are there
abbrev joined : Option (List Fact) → Option Part → Option (List Fact)
joined below part = option_and_then (λ facts. option_map (λ (p : Part). facts ++ p.facts) part) below

joined_none : (below : Option (List Fact)) → joined below None ≡ None
joined_none None = refl
joined_none (Some facts) = refl

-- where a part is missing, there are no facts of more parts than its number
lacking : (parts : List Part) (number count : ℕ) → part_at parts number ≡ None → number < count → facts_below parts count ≡ None
lacking parts number zero none lt = absurd (omega (arith, lt))
lacking parts number (suc count) none lt = go (cases_lt number count) (lacking parts number count none)
  where
    go : (number < count) ⊎ (count ≤ number) → (number < count → facts_below parts count ≡ None) → facts_below parts (suc count) ≡ None
    go (inl below) rest = ap (λ facts. joined facts (part_at parts count)) (rest below)
    go (inr above) rest =
        let here : number ≡ count = omega (arith, lt, above) in
        ap (joined (facts_below parts count)) (subst (λ n. part_at parts n ≡ None) here none) ∙ joined_none (facts_below parts count)

module _ (kept : List (ℕ × List Fact)) where
  -- where no part of a number is kept, more parts than that aren't whole
  pub not_whole : (number count : ℕ) → lookup (nat_eq number) kept ≡ None → number < count → facts_below (parts_in kept) count ≡ None
  not_whole number count none lt = lacking (parts_in kept) number count (part_kept number kept ∙ ap (option_map (part_of number)) none) lt

  -- nor where a part that is noted as missing is one of them
  pub not_whole_without : (missing : Option ℕ) (count : ℕ) → IsSomeAnd missing (λ number. number < count) → IfSome missing (λ number. lookup (nat_eq number) kept ≡ None)
      → facts_below (parts_in kept) count ≡ None
  not_whole_without None count below none = absurd below
  not_whole_without (Some number) count below none = not_whole number count none below

  -- the facts of one part more, which is kept
  pub one_more : (number : ℕ) (facts more : List Fact) → facts_below (parts_in kept) number ≡ Some facts → lookup (nat_eq number) kept ≡ Some more
      → facts_below (parts_in kept) (number + 1) ≡ Some (facts ++ more)
  one_more number facts more below found = rw add-one (ap₂ joined below (part_kept number kept ∙ ap (option_map (part_of number)) found))

  -- a part of a number came where one is kept
  pub has_kept : (number : ℕ) → is_some (lookup (nat_eq number) kept) ≡ is_some (part_at (parts_in kept) number)
  has_kept number = sym (ap is_some (part_kept number kept) ∙ same (lookup (nat_eq number) kept))
    where
      same : (facts : Option (List Fact)) → is_some (option_map (part_of number) facts) ≡ is_some facts
      same None = refl
      same (Some facts) = refl

  -- where none came, none is kept
  pub none_kept : (number : ℕ) → part_at (parts_in kept) number ≡ None → lookup (nat_eq number) kept ≡ None
  none_kept number none = go (lookup (nat_eq number) kept) (sym (part_kept number kept) ∙ none)
    where
      go : (facts : Option (List Fact)) → option_map (part_of number) facts ≡ None → facts ≡ None
      go None is = refl
      go (Some facts) is = absurd (false≢true (sym (ap is_some is)))

  -- numbers of two bytes, each once, are few
  pub few_kept : (missing : Option ℕ) → ArePartsWithout kept missing → IsDistinct nat_eq (keys_of kept) → length kept ≤ 65536
  few_kept missing are once =
      subst (λ n. n ≤ 65536) (length-keys_of kept)
      (length-le_from_distinct_below (keys_of kept) 65536 once (λ q any. are.small q (is_some-lookup (nat_eq q) kept ∙ any)))

-- a part that is added stands behind the others
pub part_added : (kept new : List (ℕ × List Fact)) (number : ℕ) (facts : List Fact) → new ≡ kept ++ (number, facts) ∷ []
    → parts_in new ≡ parts_in kept ++ record { number = number; facts = facts } ∷ []
part_added kept new number facts is = ap parts_in is ∙ map-append kept_part kept ((number, facts) ∷ [])

-- what is found in the first entries is found
found_in_front : {X : Type 0} (test : ℕ → Bool) (front back : List (ℕ × X)) → IsSome (lookup test front) → IsSome (lookup test (front ++ back))
found_in_front test [] back some = absurd (false≢true some)
found_in_front {X} test (e ∷ front) back some =
    elim (test e.0) as (λ b. IsSome (cond b (Some e.1) (lookup test front)) → IsSome (cond b (Some e.1) (lookup test (front ++ back)))) [
      | true ↦ λ found. found
      | false ↦ found_in_front test front back
    ] some

-- and what isn't found isn't in the first
absent_in_front : {X : Type 0} (test : ℕ → Bool) (front back : List (ℕ × X)) → lookup test (front ++ back) ≡ None → lookup test front ≡ None
absent_in_front test [] back none = refl
absent_in_front {X} test (e ∷ front) back none =
    elim (test e.0) as (λ b. cond b (Some e.1) (lookup test (front ++ back)) ≡ None → cond b (Some e.1) (lookup test front) ≡ None) [
      | true ↦ λ is. is
      | false ↦ absent_in_front test front back
    ] none

-- what is true of parts is true of the first of them
pub fewer : (front back : List (ℕ × List Fact)) (missing : Option ℕ) → ArePartsWithout (front ++ back) missing → ArePartsWithout front missing
fewer front back missing are = record {
  small = λ number found. are.small number (found_in_front (nat_eq number) front back found);
  without = IfSome_then missing are.without (λ number none. absent_in_front (nat_eq number) front back none);
}

-- and of those with one more
pub more : (kept new : List (ℕ × List Fact)) (number : ℕ) (facts : List Fact) (before after : Option ℕ) → number < 2 ^ 16
    → ((q : ℕ) → lookup (nat_eq q) new ≡ cond (nat_eq number q) (Some facts) (lookup (nat_eq q) kept))
    → ArePartsWithout kept before → IfSome after (λ q. lookup (nat_eq q) new ≡ None) → ArePartsWithout new after
more kept new number facts before after small updates are without = record {
  small = λ q found. go q (nat_eq number q) refl (subst IsSome (updates q) found);
  without = without;
}
  where
    go : (q : ℕ) (b : Bool) → nat_eq number q ≡ b → IsSome (cond b (Some facts) (lookup (nat_eq q) kept)) → q < 2 ^ 16
    go q true is found = subst (λ n. n < 2 ^ 16) (eqb-true number q is) small
    go q false other found = are.small q found

-- one that was missing is missing still, behind another
pub missing_still : (kept new : List (ℕ × List Fact)) (number : ℕ) (facts : List Fact) (missing : Option ℕ)
    → ((q : ℕ) → lookup (nat_eq q) new ≡ cond (nat_eq number q) (Some facts) (lookup (nat_eq q) kept))
    → (missing ≡ Some number → ⊥) → IfSome missing (λ q. lookup (nat_eq q) kept ≡ None) → IfSome missing (λ q. lookup (nat_eq q) new ≡ None)
missing_still kept new number facts None updates other none = tt
missing_still kept new number facts (Some q) updates other none =
    updates q ∙ ap₂ (λ b o. cond b (Some facts) o) (ne_eqb number q (λ is. other (ap (λ n. Some n) (sym is)))) none
