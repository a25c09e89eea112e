-- The first of a list, and one more; and facts that are printed one by one.
use Rattle.std.proofs.Common.{◌≡◌, ◌<◌, ◌≤◌, ℕ, suc, zero, ◌+◌, length, map, List, [], ◌∷◌, ◌++◌, slice_get, take, Some, refl, ap, ◌∙◌, arith}
use Rattle.mesh_model.specs.declared.service.Fact.{Fact}
use Rattle.mesh_model.specs.Acts.BridgeRows.{Place}
use Rattle.mesh_model.specs.Acts.FactRows.{fact_line, facts_told}

next : {X : Type 0} (xs : List X) (i : ℕ) (x : X) → slice_get xs i ≡ Some x → take i xs ++ x ∷ [] ≡ take (suc i) xs
next [] i x is = cc
next (first ∷ xs) zero x is = cc
next (first ∷ xs) (suc i) x is = ap (λ l. first ∷ l) (next xs i x is)

pub taken_next : {X : Type 0} (xs : List X) (i : ℕ) (x : X) → slice_get xs i ≡ Some x → take i xs ++ x ∷ [] ≡ take (i + 1) xs
taken_next xs i x is = next xs i x is ∙ ap (λ n. take n xs) (more i)
  where
    more : (n : ℕ) → suc n ≡ n + 1
    more n = omega arith

-- the first so many are no more
pub few_taken : {X : Type 0} (n : ℕ) (xs : List X) → length (take n xs) ≤ n
few_taken zero xs = omega arith
few_taken (suc n) [] = omega arith
few_taken (suc n) (x ∷ xs) = (let few = few_taken n xs in omega (arith, few))

-- facts of which there are some are printed one by one
pub told_each : (at : Place) (type_no : ℕ) (facts : List Fact) → 0 < length facts → map (fact_line at type_no) facts ≡ facts_told at type_no facts
told_each at type_no [] some = absurd (omega (arith, some))
told_each at type_no (fact ∷ facts) some = refl
