-- The best neighbour by the one before, where the score of one neighbour changed. The main word is
-- `IsBest`.
use Rattle.std.proofs.Common.{◌≡◌, ⊎_elim, ℕ, ◌<◌, nat_eq, nat_lt, Bool, true, false, cond, ◌&&◌, ◌||◌, List, [], ◌∷◌, Option, Some, None, is_lt, arith, refl, sym, ap, ◌∙◌, subst, Ordering, Less, Equal, Greater}
use Rattle.std.specs.List.{AllByRecursion}
use Rattle.std.specs.List.Sorted.{IsStrictlySortedBy}
use Rattle.std.specs.Map.{keys_of, lookup}
use Rattle.std.specs.Ordering.{ordering_reverse, ordering_then}
use Rattle.std.proofs.lemmas.Bool.{and_left, and_right, cases_Bool, false≢true, ltb-true, true≢false}
use Rattle.std.proofs.lemmas.Bool.Decides.{nat_tests}
use Rattle.mesh_base.specs.declared.address.Mac.{Mac}
use Rattle.mesh_model.specs.Routes.Addresses.{is_smaller, mac_order, same_mac}
use Rattle.mesh_laws.proofs.ChoiceLemmas.{not_below, not_itself}
use Rattle.mesh_laws.proofs.MacLemmas.{mac_exact, mac_total, other_by_order, same_equiv, same_exact, same_self}
use Rattle.mesh_algo.specs.declared.best.Best.{Best}
use Rattle.mesh_algo.specs.declared.pair.Pair.{Pair}
use Rattle.mesh_algo.specs.Pairs.{pair_order, same_pair}
use Rattle.mesh_algo.specs.Walk.{better_row, is_best, is_better, walk}
use Rattle.mesh_iv.specs.Writing.{has_fallen}

-- ---- the best by scores
-- a best neighbour has its score, which is above 0
abbrev HasScore : (Mac → ℕ) → Option Best → Type 0
HasScore score None = Unit {0}
HasScore score (Some b) = (0 < b.score) × (score b.from ≡ b.score)

-- this is the best of all neighbours by their scores, where there is one
record IsBest (score : Mac → ℕ) (best : Option Best) : Type 0 where
  stands : HasScore score best
  none_better : (k : Mac) → is_better best k (score k) ≡ false

-- the scores, where a neighbour has another
abbrev score_with : (Mac → ℕ) → Mac → ℕ → Mac → ℕ
score_with score from n k = cond (same_mac from k) n (score k)

-- ---- addresses
neither : (a b : Mac) (r : Ordering) → mac_order a b ≡ r → is_smaller a b ≡ false → is_smaller b a ≡ false → a ≡ b
neither a b Less e p q = absurd (true≢false (sym (ap is_lt e) ∙ p))
neither a b Equal e p q = mac_exact a b e
neither a b Greater e p q = absurd (true≢false (sym (ap is_lt (mac_total.antisymm b a ∙ ap ordering_reverse e)) ∙ q))

-- ---- scores
itself : (n : ℕ) (s : Bool) → s ≡ false → (nat_lt n n || (nat_eq n n && s)) ≡ false
itself n true e = absurd (true≢false e)
itself n false e = grind (arith, nat_tests)

above_none : (n m : ℕ) (s : Bool) → 0 < n → nat_lt 0 m ≡ false → (nat_lt n m || (nat_eq n m && s)) ≡ false
above_none n m true some none = grind (arith, nat_tests)
above_none n m false some none = grind (arith, nat_tests)

-- what isn't better than one isn't better than what is better than that
outdone : (b n m : ℕ) (p q r : Bool) → (q ≡ true → p ≡ false → r ≡ false) → (nat_lt b n || (nat_eq b n && q)) ≡ true → (nat_lt b m || (nat_eq b m && p)) ≡ false → (nat_lt n m || (nat_eq n m && r)) ≡ false
outdone b n m p q false h e f = grind (arith, nat_tests)
outdone b n m true true true h e f = grind (arith, nat_tests)
outdone b n m true false true h e f = grind (arith, nat_tests)
outdone b n m false true true h e f = absurd (true≢false (h refl refl))
outdone b n m false false true h e f = grind (arith, nat_tests)

some_score : (b n : ℕ) (q : Bool) → 0 < b → (nat_lt b n || (nat_eq b n && q)) ≡ true → 0 < n
some_score b n true some e = grind (arith, nat_tests)
some_score b n false some e = grind (arith, nat_tests)

-- a best neighbour that neither rose nor fell has the score that it had
level : (b n : ℕ) (q : Bool) → (nat_lt b n || (nat_eq b n && q)) ≡ false → nat_lt n b ≡ false → n ≡ b
level b n true e f = grind (arith, nat_tests)
level b n false e f = grind (arith, nat_tests)

record IsTie (m n : ℕ) (p q : Bool) : Type 0 where
  score : m ≡ n
  first : p ≡ false
  second : q ≡ false

tie : (m n : ℕ) (p q : Bool) → (nat_lt m n || (nat_eq m n && p)) ≡ false → (nat_lt n m || (nat_eq n m && q)) ≡ false → IsTie m n p q
tie m n true q e f = absurd (grind (arith, nat_tests))
tie m n false true e f = absurd (grind (arith, nat_tests))
tie m n false false e f = record { score = grind (arith, nat_tests); first = refl; second = refl }

-- ---- one neighbour's score changes
module _ (score : Mac → ℕ) (from : Mac) (n : ℕ) where
  own_score : score_with score from n from ≡ n
  own_score = ap (λ b. cond b n (score from)) (same_self from)

  -- what holds of the neighbour and of the others holds of all
  each : (P : Mac → ℕ → Type 0) → P from n → ((k : Mac) → P k (score k)) → (k : Mac) → P k (score_with score from n k)
  each P own others k =
      elim (same_mac from k) as (λ b. same_mac from k ≡ b → P k (cond b n (score k))) [
        | true ↦ λ t. subst (λ j. P j n) (same_exact from k t) own
        | false ↦ λ t. others k
      ] refl

  best_with : (best : Option Best) → IsBest score best → has_fallen best from n ≡ false → IsBest (score_with score from n) (better_row best from n)
  best_with None is stays =
      elim (nat_lt 0 n) as (λ b. nat_lt 0 n ≡ b → IsBest (score_with score from n) (cond b (Some (record { from = from; score = n })) None)) [
        | true ↦ λ t. let some = ltb-true 0 n t in record {
          stands = (some, own_score);
          none_better = each (λ k m. is_better (Some (record { from = from; score = n })) k m ≡ false) (itself n _ (not_itself from))
              (λ k. above_none n (score k) _ some (is.none_better k));
        }
        | false ↦ λ t. record { stands = tt; none_better = each (λ k m. nat_lt 0 m ≡ false) t is.none_better }
      ] refl
  best_with (Some b) is stays =
      elim (is_better (Some b) from n) as (λ x. is_better (Some b) from n ≡ x → IsBest (score_with score from n) (cond x (Some (record { from = from; score = n })) (Some b))) [
        | true ↦ λ t. record {
          stands = (some_score b.score n _ is.stands.0 t, own_score);
          none_better = each (λ k m. is_better (Some (record { from = from; score = n })) k m ≡ false) (itself n _ (not_itself from))
              (λ k. outdone b.score n (score k) _ _ _ (not_below from b.from k) t (is.none_better k));
        }
        | false ↦ λ t. record {
          stands = (
            is.stands.0,
            elim (same_mac from b.from) as (λ x. same_mac from b.from ≡ x → cond x n (score b.from) ≡ b.score) [
              | true ↦ λ s. level b.score n _ t (ap (λ x. x && nat_lt n b.score) (sym (same_equiv.symm b.from from ∙ s)) ∙ stays)
              | false ↦ λ s. is.stands.1
            ] refl,
          );
          none_better = each (λ k m. is_better (Some b) k m ≡ false) t is.none_better;
        }
      ] refl

-- two that are the best are one
one_best : (score : Mac → ℕ) (a b : Option Best) → IsBest score a → IsBest score b → a ≡ b
one_best score None None is_a is_b = refl
one_best score None (Some b) is_a is_b = absurd (let some = is_b.stands.0 in let e = is_b.stands.1 in let none = is_a.none_better b.from in grind (arith, nat_tests))
one_best score (Some a) None is_a is_b = absurd (let some = is_a.stands.0 in let e = is_a.stands.1 in let none = is_b.none_better a.from in grind (arith, nat_tests))
one_best score (Some a) (Some b) is_a is_b =
    let t = tie a.score b.score _ _
    (ap (λ m. is_better (Some a) b.from m) (sym is_b.stands.1) ∙ is_a.none_better b.from)
    (ap (λ m. is_better (Some b) a.from m) (sym is_a.stands.1) ∙ is_b.none_better a.from) in
    let same = neither a.from b.from _ refl t.second t.first in
    λ i. Some (record { from = same i; score = t.score i })

-- ---- the walk
apart : (a b : Pair) → pair_order a b ≡ Less → same_pair a b ≡ false
apart a b e =
    elim (mac_order a.orig b.orig) as (λ r. mac_order a.orig b.orig ≡ r → ordering_then r (mac_order a.from b.from) ≡ Less → same_pair a b ≡ false) [
      | Less ↦ λ p h. and_left _ _ (same_equiv.symm a.orig b.orig ∙ other_by_order a.orig b.orig p)
      | Equal ↦ λ p h. and_right _ _ (same_equiv.symm a.from b.from ∙ other_by_order a.from b.from h)
      | Greater ↦ λ p h. absurd (false≢true (ap is_lt h))
    ] refl e

not_fallen : (best : Option Best) (k : Mac) (n : ℕ) → is_best k best ≡ false → has_fallen best k n ≡ false
not_fallen None k n e = refl
not_fallen (Some b) k n e = and_left _ _ e

module _ {X : Type 0} (f : Mac → X → ℕ) (o : Mac) where
  abbrev own : Mac → Pair
  own k = record { orig = o; from = k }

  -- the score of a neighbour's row, if there is one, and one without a row
  abbrev row_score : ℕ → Mac → Option X → ℕ
  row_score before k None = before
  row_score before k (Some x) = f k x

  abbrev score_in : List (Pair × X) → Mac → ℕ
  score_in rows k = row_score 0 k (lookup (same_pair (own k)) rows)

  none_later : (a : Pair) (rows : List (Pair × X)) → AllByRecursion (λ y. pair_order a y ≡ Less) (keys_of rows) → lookup (same_pair a) rows ≡ None
  none_later a [] above = refl
  none_later a (e ∷ rows) above = ap (λ b. cond b (Some e.1) (lookup (same_pair a) rows)) (apart a e.0 above.0) ∙ none_later a rows above.1

  -- no row is that of the best neighbour
  abbrev IsFresh : Option Best → List (Pair × X) → Type 0
  IsFresh best rows = (k : Mac) → is_best k best ≡ true → lookup (same_pair (own k)) rows ≡ None

  module _ (e : Pair × X) (rows : List (Pair × X)) where
    look : (b : Bool) → same_mac e.0.orig o ≡ b → (k : Mac) → lookup (same_pair (own k)) (e ∷ rows) ≡ cond (b && same_mac k e.0.from) (Some e.1) (lookup (same_pair (own k)) rows)
    look b t k = ap (λ x. cond (x && same_mac k e.0.from) (Some e.1) (lookup (same_pair (own k)) rows)) (same_equiv.symm o e.0.orig ∙ t)

    -- the row of the originator stands before those that are left
    module _ (mine : same_mac e.0.orig o ≡ true) (above : AllByRecursion (λ y. pair_order e.0 y ≡ Less) (keys_of rows)) where
      tail : (k : Mac) → same_mac e.0.from k ≡ true → lookup (same_pair (own k)) rows ≡ None
      tail k t =
          let key : own k ≡ e.0 = (let a = same_exact e.0.orig o mine in let b = same_exact e.0.from k t in λ i. record { orig = sym a i; from = sym b i }) in
          ap (λ p. lookup (same_pair p) rows) key ∙ none_later e.0 rows above

      not_best : (best : Option Best) → IsFresh best (e ∷ rows) → is_best e.0.from best ≡ false
      not_best best fresh =
          ⊎_elim (λ t.
          let there : lookup (same_pair (own e.0.from)) (e ∷ rows) ≡ Some e.1 = look true mine e.0.from ∙ ap (λ b. cond b (Some e.1) (lookup (same_pair (own e.0.from)) rows)) (same_self e.0.from) in
          let none = fresh e.0.from t in cc) (λ e. e) (cases_Bool (is_best e.0.from best))

      fresh_then : (best : Option Best) (n : ℕ) → IsFresh best (e ∷ rows) → IsFresh (better_row best e.0.from n) rows
      fresh_then best n fresh k =
          elim (is_better best e.0.from n) as (λ b. is_best k (cond b (Some (record { from = e.0.from; score = n })) best) ≡ true → lookup (same_pair (own k)) rows ≡ None) [
            | true ↦ λ t. tail k t
            | false ↦ λ t. skip (same_mac k e.0.from) _ (sym (look true mine k) ∙ fresh k t)
          ]
        where
          skip : (b : Bool) (row : Option X) → cond b (Some e.1) row ≡ None → row ≡ None
          skip true row none = cc
          skip false row none = none

      same_scores : (s : Mac → ℕ) (k : Mac) → row_score (score_with s e.0.from (f e.0.from e.1) k) k (lookup (same_pair (own k)) rows) ≡ row_score (s k) k (lookup (same_pair (own k)) (e ∷ rows))
      same_scores s k =
          elim (same_mac e.0.from k) as (λ b. same_mac e.0.from k ≡ b → row_score (cond b (f e.0.from e.1) (s k)) k (lookup (same_pair (own k)) rows) ≡ row_score (s k) k (lookup (same_pair (own k)) (e ∷ rows))) [
            | true ↦ λ t. ap (λ r. row_score (f e.0.from e.1) k r) (tail k t) ∙ ap (λ j. f j e.1) (same_exact e.0.from k t)
                ∙ sym (ap (λ r. row_score (s k) k r) (look true mine k ∙ ap (λ b. cond b (Some e.1) (lookup (same_pair (own k)) rows)) (same_equiv.symm k e.0.from ∙ t)))
            | false ↦ λ t. sym (ap (λ r. row_score (s k) k r) (look true mine k ∙ ap (λ b. cond b (Some e.1) (lookup (same_pair (own k)) rows)) (same_equiv.symm k e.0.from ∙ t)))
          ] refl

  walk_from : (s : Mac → ℕ) (best : Option Best) (rows : List (Pair × X)) → IsStrictlySortedBy pair_order (keys_of rows) → IsBest s best → IsFresh best rows
      → IsBest (λ k. row_score (s k) k (lookup (same_pair (own k)) rows)) (walk f o best rows)
  unfolding IsStrictlySortedBy
  walk_from s best [] sorted is fresh = is
  walk_from s best (e ∷ rows) sorted is fresh =
      elim (same_mac e.0.orig o) as (λ b. same_mac e.0.orig o ≡ b → IsBest (λ k. row_score (s k) k (lookup (same_pair (own k)) (e ∷ rows)))
      (cond b (walk f o (better_row best e.0.from (f e.0.from e.1)) rows) (walk f o best rows))) [
        | true ↦ λ t.
            let n = f e.0.from e.1 in
            let then = walk_from (score_with s e.0.from n) (better_row best e.0.from n) rows sorted.1
            (best_with s e.0.from n best is (not_fallen best e.0.from n (not_best e rows t sorted.0 best fresh)))
            (fresh_then e rows t sorted.0 best n fresh) in
            subst (λ scores. IsBest scores (walk f o (better_row best e.0.from n) rows)) (λ i k. same_scores e rows t sorted.0 s k i) then
        | false ↦ λ t. subst (λ scores. IsBest scores (walk f o best rows)) (λ i k. row_score (s k) k (sym (look e rows false t k) i))
            (walk_from s best rows sorted.1 is (λ k u. sym (look e rows false t k) ∙ fresh k u))
      ] refl

  walk_is_best : (rows : List (Pair × X)) → IsStrictlySortedBy pair_order (keys_of rows) → IsBest (score_in rows) (walk f o None rows)
  walk_is_best rows sorted = walk_from (λ k. 0) None rows sorted (record { stands = tt; none_better = λ k. refl }) (λ k t. absurd (false≢true t))

  -- where one neighbour has another row, the best is the better of that and the best before, if it wasn't
  -- the best with a greater score
  pub walk_with : (from : Mac) (x : X) (old new : List (Pair × X)) → IsStrictlySortedBy pair_order (keys_of old) → IsStrictlySortedBy pair_order (keys_of new)
      → ((k : Mac) → lookup (same_pair (own k)) new ≡ cond (same_mac from k) (Some x) (lookup (same_pair (own k)) old))
      → has_fallen (walk f o None old) from (f from x) ≡ false → better_row (walk f o None old) from (f from x) ≡ walk f o None new
  walk_with from x old new sorted_old sorted_new rows stays =
      one_best (score_in new) _ _
      (subst (λ scores. IsBest scores (better_row (walk f o None old) from (f from x))) (λ i k. same k i)
      (best_with (score_in old) from (f from x) (walk f o None old) (walk_is_best old sorted_old) stays))
      (walk_is_best new sorted_new)
    where
      same : (k : Mac) → score_with (score_in old) from (f from x) k ≡ score_in new k
      same k =
          elim (same_mac from k) as (λ b. same_mac from k ≡ b → cond b (f from x) (score_in old k) ≡ score_in new k) [
            | true ↦ λ t. ap (λ j. f j x) (same_exact from k t) ∙ sym (ap (λ r. row_score 0 k r) (rows k ∙ ap (λ b. cond b (Some x) (lookup (same_pair (own k)) old)) t))
            | false ↦ λ t. sym (ap (λ r. row_score 0 k r) (rows k ∙ ap (λ b. cond b (Some x) (lookup (same_pair (own k)) old)) t))
          ] refl
