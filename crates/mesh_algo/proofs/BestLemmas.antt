-- The best of some neighbours: the one than which none is better.
use Rattle.std.proofs.Common.{◌≡◌, ◌⊎◌, inl, inr, ⊎_elim, ℕ, ◌<◌, ◌≤◌, nat_eq, nat_lt, Bool, true, false, cond, ◌&&◌, ◌||◌, List, [], ◌∷◌, Option, Some, None, is_lt, arith, refl, sym, ap, ◌∙◌, subst, Ordering, Less, Equal, Greater}
use Rattle.std.specs.List.{list_any}
use Rattle.std.specs.Ordering.{ordering_reverse}
use Rattle.std.proofs.lemmas.Bool.{cases_Bool, cases_lt, ltb-true, ltb-false, eqb-true, or_cases, and_parts, false≢true, true≢false}
use Rattle.std.proofs.lemmas.Bool.Decides.{nat_tests}
use Rattle.mesh_base.specs.declared.address.Mac.{Mac}
use Rattle.mesh_model.specs.Routes.Addresses.{mac_order, same_mac, is_smaller}
use Rattle.mesh_model.specs.Routes.BestRoute.{better, best}
use Rattle.mesh_laws.proofs.MacLemmas.{mac_total, mac_exact, same_exact}

-- a neighbour of a score isn't better than another: less, or as good and not smaller
abbrev pub IsUpTo : (Mac → ℕ) → Mac → Mac → Type 0
IsUpTo score k j = (score k < score j) ⊎ ((score k ≡ score j) × (is_smaller k j ≡ false))

-- of the neighbours that pass a test none is better than the best
abbrev pub IsTop : (Mac → ℕ) → (Mac → Bool) → Option Mac → Type 0
IsTop score among None = (k : Mac) → among k ≡ true → score k ≡ 0
IsTop score among (Some j) = (0 < score j) × ((k : Mac) → among k ≡ true → IsUpTo score k j)

abbrev pub is_among : List Mac → Mac → Bool
is_among ks k = list_any (λ j. same_mac k j) ks

smaller_lt : (r : Ordering) → is_lt r ≡ true → r ≡ Less
smaller_lt Less e = refl
smaller_lt Equal e = absurd (false≢true e)
smaller_lt Greater e = absurd (false≢true e)

not_less : (r : Ordering) → is_lt r ≡ false → (r ≡ Equal) ⊎ (r ≡ Greater)
not_less Less e = absurd (true≢false e)
not_less Equal e = inl refl
not_less Greater e = inr refl

-- of two, none smaller than the other, both are one
neither : (a b : Mac) → is_smaller a b ≡ false → is_smaller b a ≡ false → a ≡ b
neither a b p q =
    ⊎_elim (λ e. mac_exact a b e) (λ g. absurd (true≢false (sym (ap is_lt (mac_total.antisymm b a ∙ ap ordering_reverse g)) ∙ q))) (not_less (mac_order a b) p)

not_smaller_self : (a : Mac) → is_smaller a a ≡ false
not_smaller_self a = ⊎_elim (λ e. absurd (true≢false (sym e ∙ ap is_lt (mac_total.antisymm a a ∙ ap ordering_reverse (smaller_lt _ e))))) (λ e. e) (cases_Bool (is_smaller a a))

-- what is not smaller than one is not smaller than what is smaller than that
not_smaller_below : (i j k : Mac) → is_smaller k j ≡ true → is_smaller i j ≡ false → is_smaller i k ≡ false
not_smaller_below i j k kj ij =
    ⊎_elim (λ e. absurd (true≢false (sym (ap is_lt (mac_total.trans i k j (smaller_lt _ e) (smaller_lt _ kj))) ∙ ij))) (λ e. e) (cases_Bool (is_smaller i k))

pub IsUpTo-trans : (score : Mac → ℕ) (i j k : Mac) → IsUpTo score i j → ((score j < score k) ⊎ ((score j ≡ score k) × (is_smaller k j ≡ true))) → IsUpTo score i k
IsUpTo-trans score i j k up better_k =
    ⊎_elim (λ lt. inl (⊎_elim (λ l. omega (arith, l, lt)) (λ (e : (score j ≡ score k) × (is_smaller k j ≡ true)). let p = e.0 in omega (arith, lt, p)) better_k))
    (λ (e : (score i ≡ score j) × (is_smaller i j ≡ false)). ⊎_elim (λ l. inl (let p = e.0 in omega (arith, l, p)))
    (λ (b : (score j ≡ score k) × (is_smaller k j ≡ true)). inr (e.0 ∙ b.0, not_smaller_below i j k b.1 e.1)) better_k) up

-- ---- one neighbour more
both_ways : (score : Mac → ℕ) (k j : Mac) → (nat_lt (score j) (score k) || (nat_eq (score j) (score k) && is_smaller k j)) ≡ true → (score j < score k) ⊎ ((score j ≡ score k) × (is_smaller k j ≡ true))
both_ways score k j e =
    ⊎_elim (λ l. inl (ltb-true (score j) (score k) l)) (λ b. let parts = and_parts (nat_eq (score j) (score k)) (is_smaller k j) b in inr (eqb-true (score j) (score k) parts.0, parts.1))
    (or_cases (nat_lt (score j) (score k)) (nat_eq (score j) (score k) && is_smaller k j) e)

not_better : (a b : ℕ) (s : Bool) → (nat_lt a b || (nat_eq a b && s)) ≡ false → (b < a) ⊎ ((b ≡ a) × (s ≡ false))
not_better a b true e = inl (grind (arith, nat_tests))
not_better a b false e = ⊎_elim (λ l. absurd (true≢false (sym (ap (λ x. x || (nat_eq a b && false)) l) ∙ e))) (λ l. by_lt (ltb-false a b l)) (cases_Bool (nat_lt a b))
  where
    by_lt : b ≤ a → (b < a) ⊎ ((b ≡ a) × (false ≡ false))
    by_lt le = ⊎_elim (λ lt. inl lt) (λ ge. inr (omega arith, refl)) (cases_lt b a)

module _ (score : Mac → ℕ) where
  upto_self : (i k : Mac) → same_mac i k ≡ true → IsUpTo score i k
  upto_self i k e = inr (ap score (same_exact i k e), subst (λ x. is_smaller x k ≡ false) (sym (same_exact i k e)) (not_smaller_self k))

  upto_same : (i k j : Mac) → same_mac i k ≡ true → IsUpTo score k j → IsUpTo score i j
  upto_same i k j e up = subst (λ x. IsUpTo score x j) (sym (same_exact i k e)) up

  more : (ks : List Mac) (k i : Mac) (P : Type 0) → is_among (k ∷ ks) i ≡ true → (same_mac i k ≡ true → P) → (is_among ks i ≡ true → P) → P
  more ks k i P e first rest = ⊎_elim (λ s. first s) (λ r. rest r) (or_cases (same_mac i k) (is_among ks i) e)

  top_step : (ks : List Mac) (k : Mac) (o : Option Mac) → IsTop score (is_among ks) o → IsTop score (is_among (k ∷ ks)) (better score k o)
  top_step ks k None top =
      elim (nat_lt 0 (score k)) as (λ b. nat_lt 0 (score k) ≡ b → IsTop score (is_among (k ∷ ks)) (cond b (Some k) None)) [
        | true ↦ λ t. let some = ltb-true 0 (score k) t in
            (some, λ i e. more ks k i (IsUpTo score i k) e (upto_self i k) (λ r. inl (let none = top i r in omega (arith, none, some))))
        | false ↦ λ t. let none = ltb-false 0 (score k) t in
            λ i e. more ks k i (score i ≡ 0) e (λ s. let same = ap score (same_exact i k s) in omega (arith, same, none)) (top i)
      ] refl
  top_step ks k (Some j) top =
      elim (nat_lt (score j) (score k) || (nat_eq (score j) (score k) && is_smaller k j)) as (λ b. (nat_lt (score j) (score k) || (nat_eq (score j) (score k) && is_smaller k j)) ≡ b
      → IsTop score (is_among (k ∷ ks)) (cond b (Some k) (Some j))) [
        | true ↦ λ t. let by = both_ways score k j t in (
          ⊎_elim (λ lt. omega (arith, lt)) (λ (e : (score j ≡ score k) × (is_smaller k j ≡ true)). let p = e.0 in let some = top.0 in omega (arith, p, some)) by,
          λ i e. more ks k i (IsUpTo score i k) e (upto_self i k) (λ r. IsUpTo-trans score i j k (top.1 i r) by),
        )
        | false ↦ λ t. (top.0, λ i e. more ks k i (IsUpTo score i j) e (λ s. upto_same i k j s (not_better (score j) (score k) (is_smaller k j) t)) (top.1 i))
      ] refl

  pub best_is_top : (ks : List Mac) → IsTop score (is_among ks) (best score ks)
  best_is_top [] = λ k e. absurd (false≢true e)
  best_is_top (k ∷ ks) = top_step ks k (best score ks) (best_is_top ks)

  scored : (p : Mac → Bool) (k : Mac) → (p k ≡ false → score k ≡ 0) → 0 < score k → p k ≡ true
  scored p k zero some = ⊎_elim (λ e. e) (λ e. absurd (let none = zero e in omega (arith, none, some))) (cases_Bool (p k))

  both_upto : (i j : Mac) → IsUpTo score i j → IsUpTo score j i → i ≡ j
  both_upto i j up down =
      ⊎_elim (λ l. absurd (⊎_elim (λ m. omega (arith, l, m)) (λ (e : (score j ≡ score i) × (is_smaller j i ≡ false)). let p = e.0 in omega (arith, l, p)) down))
      (λ (e : (score i ≡ score j) × (is_smaller i j ≡ false)). ⊎_elim (λ m. absurd (let p = e.0 in omega (arith, m, p)))
      (λ (d : (score j ≡ score i) × (is_smaller j i ≡ false)). neither i j e.1 d.1) down) up

  -- where each neighbour that has a score passes either test, the best is one
  pub one_top : (p q : Mac → Bool) → ((k : Mac) → p k ≡ false → score k ≡ 0) → ((k : Mac) → q k ≡ false → score k ≡ 0) → (a b : Option Mac) → IsTop score p a → IsTop score q b → a ≡ b
  one_top p q zero_p zero_q None None top_a top_b = refl
  one_top p q zero_p zero_q None (Some j) top_a top_b = absurd (let none = top_a j (scored p j (zero_p j) top_b.0) in let some = top_b.0 in omega (arith, none, some))
  one_top p q zero_p zero_q (Some i) None top_a top_b = absurd (let none = top_b i (scored q i (zero_q i) top_a.0) in let some = top_a.0 in omega (arith, none, some))
  one_top p q zero_p zero_q (Some i) (Some j) top_a top_b =
      ap (λ k. Some k) (both_upto i j (top_b.1 i (scored q i (zero_q i) top_a.0)) (top_a.1 j (scored p j (zero_p j) top_b.0)))

-- ---- one after another
upto_beats : (a b : ℕ) (s : Bool) → (b < a) ⊎ ((b ≡ a) × (s ≡ false)) → (nat_lt a b || (nat_eq a b && s)) ≡ false
upto_beats a b true (inl lt) = grind (arith, nat_tests)
upto_beats a b true (inr same) = absurd (true≢false same.1)
upto_beats a b false (inl lt) = grind (arith, nat_tests)
upto_beats a b false (inr same) = let e = same.0 in grind (arith, nat_tests)

no_score : (a b : ℕ) (s : Bool) → nat_lt 0 b ≡ false → nat_lt 0 a ≡ true → (nat_lt a b || (nat_eq a b && s)) ≡ false
no_score a b true none some = grind (arith, nat_tests)
no_score a b false none some = grind (arith, nat_tests)

module _ (score : Mac → ℕ) where
  -- whether one is better than another
  abbrev beats : Mac → Mac → Bool
  beats k j = nat_lt (score j) (score k) || (nat_eq (score j) (score k) && is_smaller k j)

  upto_from : (k j : Mac) → beats k j ≡ false → IsUpTo score k j
  upto_from k j e = not_better (score j) (score k) (is_smaller k j) e

  not_beats : (k j : Mac) → IsUpTo score k j → beats k j ≡ false
  not_beats k j up = upto_beats (score j) (score k) (is_smaller k j) up

  -- what is no better than one is no better than what is better than that
  below_better : (i j k : Mac) → beats i j ≡ false → beats k j ≡ true → beats i k ≡ false
  below_better i j k e t = not_beats i k (IsUpTo-trans score i j k (upto_from i j e) (both_ways score k j t))

  -- of two the better, in either order
  either : (a b : Mac) → cond (beats a b) (Some a) (Some b) ≡ cond (beats b a) (Some b) (Some a)
  either a b = by (beats a b) (beats b a) refl refl
    where
      by : (x y : Bool) → beats a b ≡ x → beats b a ≡ y → cond x (Some a) (Some b) ≡ cond y (Some b) (Some a)
      by true true e f = absurd (true≢false (sym f ∙ below_better b b a (not_beats b b (inr (refl, not_smaller_self b))) e))
      by true false e f = refl
      by false true e f = refl
      by false false e f = ap (λ k. Some k) (both_upto score b a (upto_from b a f) (upto_from a b e))

  swaps_some : (a b c : Mac) (x y : Bool) → beats b c ≡ x → beats a c ≡ y
      → better score a (cond x (Some b) (Some c)) ≡ better score b (cond y (Some a) (Some c))
  swaps_some a b c true true e f = either a b
  swaps_some a b c true false e f =
      ap (λ z. cond z (Some a) (Some b)) (below_better a c b f e) ∙ sym (ap (λ z. cond z (Some b) (Some c)) e)
  swaps_some a b c false true e f =
      ap (λ z. cond z (Some a) (Some c)) f ∙ sym (ap (λ z. cond z (Some b) (Some a)) (below_better b c a e f))
  swaps_some a b c false false e f =
      ap (λ z. cond z (Some a) (Some c)) f ∙ sym (ap (λ z. cond z (Some b) (Some c)) e)

  swaps_none : (a b : Mac) (x y : Bool) → nat_lt 0 (score b) ≡ x → nat_lt 0 (score a) ≡ y
      → better score a (cond x (Some b) None) ≡ better score b (cond y (Some a) None)
  swaps_none a b true true e f = either a b
  swaps_none a b true false e f =
      ap (λ z. cond z (Some a) (Some b)) (no_score (score b) (score a) (is_smaller a b) f e) ∙ sym (ap (λ z. cond z (Some b) None) e)
  swaps_none a b false true e f =
      ap (λ z. cond z (Some a) None) f ∙ sym (ap (λ z. cond z (Some b) (Some a)) (no_score (score a) (score b) (is_smaller b a) e f))
  swaps_none a b false false e f = ap (λ z. cond z (Some a) None) f ∙ sym (ap (λ z. cond z (Some b) None) e)

  -- two come in either order
  better_swaps : (a b : Mac) (o : Option Mac) → better score a (better score b o) ≡ better score b (better score a o)
  better_swaps a b None = swaps_none a b (nat_lt 0 (score b)) (nat_lt 0 (score a)) refl refl
  better_swaps a b (Some c) = swaps_some a b c (beats b c) (beats a c) refl refl

  -- the best of some, one after another, and of what is best before
  abbrev pub best_after : Option Mac → List Mac → Option Mac
  best_after before [] = before
  best_after before (k ∷ ks) = best_after (better score k before) ks

  better_first : (k : Mac) (before : Option Mac) (ks : List Mac) → best_after (better score k before) ks ≡ better score k (best_after before ks)
  better_first k before [] = refl
  better_first k before (j ∷ ks) = ap (λ o. best_after o ks) (better_swaps j k before) ∙ better_first k (better score j before) ks

  -- one after another leads to the best of all
  pub best_in_turn : (ks : List Mac) → best_after None ks ≡ best score ks
  best_in_turn [] = refl
  best_in_turn (k ∷ ks) = better_first k None ks ∙ ap (better score k) (best_in_turn ks)
