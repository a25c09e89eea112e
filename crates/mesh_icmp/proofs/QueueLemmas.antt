-- Probes in the order in which they were given: where a number is found, and what stays in order.
use Rattle.std.proofs.Common.{◌≡◌, ◌∙◌, refl, sym, ap, subst, ℕ, suc, zero, ◌+◌, ◌<◌, ◌≤◌, nat_eq, true, false, not, cond, List, [], ◌∷◌, ◌++◌, find, get_or, length, remove, slice_get, Option, Some, None, is_some, is_eq, nat_cmp, nat_lt, IfSome, IsNone, Result, Ok, Err, Less, Equal, Greater, arith}
use Rattle.std.specs.List.{AllByRecursion}
use Rattle.std.specs.List.Sorted.{IsBinarySearchResult, IsNonDecreasingBy}
use Rattle.std.specs.Option.{option_or}
use Rattle.std.specs.Ordering.{ordering_index}
use Rattle.std.specs.Result.{result_ok}
use Rattle.std.proofs.lemmas.Cmp.{nat_cmp_total, tied_itself}
use Rattle.std.proofs.lemmas.Map.Lookups.{exact_unsigned}
use Rattle.std.proofs.lemmas.Bool.{true≢false}
use Rattle.std.proofs.lemmas.Bool.Decides.{nat_tests}
use Rattle.std.proofs.lemmas.List.Folds.{find-append}
use Rattle.mesh_model.specs.declared.probe.OpenProbe.{OpenProbe}
use Rattle.mesh_icmp.specs.Sessions.{AreInOrder, has_number, next_after, number_rank, without}
use Rattle.mesh_icmp.proofs.RankLemmas.{next_fits, rank_after, rank_fits, rank_of_next, same_rank}

same_number : (s t : ℕ) → s ≡ t → nat_eq t s ≡ true
same_number s t e = grind (arith, nat_tests)

one_number : (n s t : ℕ) → nat_eq n t ≡ true → nat_eq s t ≡ nat_eq s n
one_number n s t e = grind (arith, nat_tests)

other_number : (n s t : ℕ) → nat_eq n t ≡ false → nat_eq s n ≡ true → nat_eq s t ≡ false
other_number n s t e f = grind (arith, nat_tests)

above_apart : (latest s t : ℕ) → number_rank latest s < number_rank latest t → nat_eq s t ≡ false
above_apart latest s t h = grind (arith, nat_tests)

below_apart : (latest s t : ℕ) → number_rank latest t < number_rank latest s → nat_eq s t ≡ false
below_apart latest s t h = grind (arith, nat_tests)

-- ---- a number that none has
pub none_left : (n : ℕ) (xs : List OpenProbe) → find (has_number n) xs ≡ None → without n xs ≡ xs
none_left n [] e = refl
none_left n (p ∷ rest) e = elim (has_number n p) as (λ b. has_number n p ≡ b → cond b (Some p) (find (has_number n) rest) ≡ None → cond (not b) (p ∷ without n rest) (without n rest) ≡ p ∷ rest) [
  | true ↦ λ t f. absurd (true≢false (ap is_some f))
  | false ↦ λ t f. ap (λ ys. p ∷ ys) (none_left n rest f)
] refl e

-- ---- a number that stands at a place
all_apart : (latest seq s : ℕ) (rest : List OpenProbe) → number_rank latest s ≡ number_rank latest seq → AllByRecursion (λ q. number_rank latest s < number_rank latest q.probe.seq) rest → find (has_number seq) rest ≡ None
all_apart latest seq s [] e above = refl
all_apart latest seq s (q ∷ rest) e above =
    ap (λ b. cond b (Some q) (find (has_number seq) rest)) (above_apart latest seq q.probe.seq (subst (λ r. r < number_rank latest q.probe.seq) e above.0))
    ∙ all_apart latest seq s rest e above.1

rank_at : (latest s : ℕ) (rest : List OpenProbe) (i : ℕ) (d : OpenProbe) → i < length rest → AllByRecursion (λ q. number_rank latest s < number_rank latest q.probe.seq) rest → number_rank latest s < number_rank latest (get_or rest i d).probe.seq
rank_at latest s [] i d lt above = absurd (omega (arith, lt))
rank_at latest s (q ∷ rest) zero d lt above = above.0
rank_at latest s (q ∷ rest) (suc i) d lt above = rank_at latest s rest i d (omega (arith, lt)) above.1

pub found_at : (latest seq : ℕ) → latest < 65536 → seq < 65536 → (xs : List OpenProbe) (i : ℕ) → AreInOrder latest xs → i < length xs → ((d : OpenProbe) → number_rank latest (get_or xs i d).probe.seq ≡ number_rank latest seq)
    → (slice_get xs i ≡ find (has_number seq) xs) × (remove xs i ≡ without seq xs)
found_at latest seq l h [] i order lt at = absurd (omega (arith, lt))
found_at latest seq l h (p ∷ rest) zero order lt at =
    let is : has_number seq p ≡ true = same_number p.probe.seq seq (same_rank latest p.probe.seq seq l order.0 h (at p)) in (
      sym (ap (λ b. cond b (Some p) (find (has_number seq) rest)) is),
      sym (ap (λ b. cond (not b) (p ∷ without seq rest) (without seq rest)) is ∙ none_left seq rest (all_apart latest seq p.probe.seq rest (at p) order.1)),
    )
found_at latest seq l h (p ∷ rest) (suc i) order lt at =
    let apart : has_number seq p ≡ false = below_apart latest seq p.probe.seq (subst (λ r. number_rank latest p.probe.seq < r) (at p) (rank_at latest p.probe.seq rest i p (omega (arith, lt)) order.1)) in
    let found = found_at latest seq l h rest i order.2 (omega (arith, lt)) at in (
      found.0 ∙ sym (ap (λ b. cond b (Some p) (find (has_number seq) rest)) apart),
      ap (λ ys. p ∷ ys) found.1 ∙ sym (ap (λ b. cond (not b) (p ∷ without seq rest) (without seq rest)) apart),
    )

-- a number that no place has is not found
pub not_found : (latest seq : ℕ) (xs : List OpenProbe) → ((i : ℕ) (d : OpenProbe) → i < length xs → number_rank latest (get_or xs i d).probe.seq ≡ number_rank latest seq → ⊥) → find (has_number seq) xs ≡ None
not_found latest seq [] none = refl
not_found latest seq (p ∷ rest) none = elim (has_number seq p) as (λ b. has_number seq p ≡ b → cond b (Some p) (find (has_number seq) rest) ≡ None) [
  | true ↦ λ t. absurd (none 0 p (omega arith) (ap (number_rank latest) (equal p.probe.seq t)))
  | false ↦ λ t. not_found latest seq rest (λ i d lt e. none (suc i) d (omega (arith, lt)) e)
] refl
  where
    equal : (s : ℕ) → nat_eq seq s ≡ true → s ≡ seq
    equal s t = grind (arith, nat_tests)

-- numbers in order rise by rank
ranks_rise : (latest : ℕ) (xs : List OpenProbe) (i j : ℕ) (d : OpenProbe) → AreInOrder latest xs → i ≤ j → j < length xs → number_rank latest (get_or xs i d).probe.seq ≤ number_rank latest (get_or xs j d).probe.seq
ranks_rise latest [] i j d order le lt = absurd (omega (arith, lt))
ranks_rise latest (p ∷ rest) zero zero d order le lt = omega arith
ranks_rise latest (p ∷ rest) zero (suc j) d order le lt = weaken _ _ (rank_at latest p.probe.seq rest j d (omega (arith, lt)) order.1)
  where
    weaken : (a b : ℕ) → a < b → a ≤ b
    weaken a b h = omega (arith, h)
ranks_rise latest (p ∷ rest) (suc i) zero d order le lt = absurd (omega (arith, le))
ranks_rise latest (p ∷ rest) (suc i) (suc j) d order le lt = ranks_rise latest rest i j d order.2 (omega (arith, le)) (omega (arith, lt))

index_rises : (a b x : ℕ) → a ≤ b → ordering_index (nat_cmp a x) ≤ ordering_index (nat_cmp b x)
index_rises a b x le = grind (arith, nat_tests)

-- so a search by halving may be made
pub searchable : (latest x : ℕ) (xs : List OpenProbe) → AreInOrder latest xs → IsNonDecreasingBy (λ p. ordering_index (nat_cmp (number_rank latest p.probe.seq) x)) xs
searchable latest x xs order i j d le lt = index_rises _ _ x (ranks_rise latest xs i j d order le lt)

-- the probe that is taken out at a place
pub taken_at : (xs : List OpenProbe) (i : ℕ) (o : Option OpenProbe) → i < length xs → ((d : OpenProbe) → o ≡ Some (get_or xs i d)) → o ≡ slice_get xs i
taken_at [] i o lt at = absurd (omega (arith, lt))
taken_at (p ∷ rest) zero o lt at = at p
taken_at (p ∷ rest) (suc i) o lt at = taken_at rest i o (omega (arith, lt)) at

tied_is : (a b : ℕ) → nat_cmp a b ≡ Equal → a ≡ b
tied_is a b t = exact_unsigned a b t

-- what is known of the place of a number
pub record Placed (seq : ℕ) (xs : List OpenProbe) (place : Option ℕ) : Type 0 where
  pub found : IfSome place (λ i. slice_get xs i ≡ find (has_number seq) xs)
  pub left : IfSome place (λ i. remove xs i ≡ without seq xs)
  pub absent : IsNone place → find (has_number seq) xs ≡ None

-- what a search by halving answers
pub placed : (latest seq : ℕ) → latest < 65536 → seq < 65536 → (xs : List OpenProbe) → AreInOrder latest xs → (r : Result ℕ ℕ) → IfSome (result_ok r) (λ i. i < length xs)
    → IsBinarySearchResult (λ p. nat_cmp (number_rank latest p.probe.seq) (number_rank latest seq)) xs r → Placed seq xs (result_ok r)
placed latest seq l h xs order (Ok i) within at =
    let both = found_at latest seq l h xs i order within (λ d. tied_is _ _ (at d)) in
    record { found = both.0; left = both.1; absent = λ none. absurd (true≢false none) }
placed latest seq l h xs order (Err i) within parts =
    let apart = parts (searchable latest (number_rank latest seq) xs order) in
    record {
      found = tt;
      left = tt;
      absent = λ none. not_found latest seq xs (λ k d lt same.
          elim (nat_lt k i) as (λ b. nat_lt k i ≡ b → ⊥) [
            | true ↦ λ t. less_is_not _ _ same (apart.0 k d (omega arith) (below k i t))
            | false ↦ λ t. greater_is_not _ _ same (apart.1 k d (above k i t) lt)
          ] refl);
    }
  where
    below : (k i : ℕ) → nat_lt k i ≡ true → k < i
    below k i t = grind (arith, nat_tests)

    above : (k i : ℕ) → nat_lt k i ≡ false → i ≤ k
    above k i t = grind (arith, nat_tests)

    less_is_not : (a b : ℕ) → a ≡ b → nat_cmp a b ≡ Less → ⊥
    less_is_not a b e t = absurd (true≢false (sym (ap is_eq (tied_itself nat_cmp_total b)) ∙ ap (λ x. is_eq (nat_cmp x b)) (sym e) ∙ ap is_eq t))

    greater_is_not : (a b : ℕ) → a ≡ b → nat_cmp a b ≡ Greater → ⊥
    greater_is_not a b e t = absurd (true≢false (sym (ap is_eq (tied_itself nat_cmp_total b)) ∙ ap (λ x. is_eq (nat_cmp x b)) (sym e) ∙ ap is_eq t))

-- ---- the order
all_without : (n : ℕ) (P : OpenProbe → Type 0) (xs : List OpenProbe) → AllByRecursion P xs → AllByRecursion P (without n xs)
all_without n P [] h = tt
all_without n P (p ∷ rest) h = elim (has_number n p) as (λ b. AllByRecursion P (cond (not b) (p ∷ without n rest) (without n rest))) [
  | true ↦ all_without n P rest h.1
  | false ↦ (h.0, all_without n P rest h.1)
]

-- probes of which one has ended are in order
pub in_order_without : (latest n : ℕ) (xs : List OpenProbe) → AreInOrder latest xs → AreInOrder latest (without n xs)
in_order_without latest n [] order = tt
in_order_without latest n (p ∷ rest) order = elim (has_number n p) as (λ b. AreInOrder latest (cond (not b) (p ∷ without n rest) (without n rest))) [
  | true ↦ in_order_without latest n rest order.2
  | false ↦ (order.0, all_without n (λ q. number_rank latest p.probe.seq < number_rank latest q.probe.seq) rest order.1, in_order_without latest n rest order.2)
]

nearer : (a b c d : ℕ) → a + 1 ≡ c → b + 1 ≡ d → c < d → a < b
nearer a b c d e f lt = omega (arith, e, f, lt)

below_last : (a c z : ℕ) → a + 1 ≡ c → c < 65536 → z ≡ 65535 → a < z
below_last a c z e lt f = omega (arith, e, lt, f)

module _ (latest : ℕ) (fits : latest < 65536) (new : OpenProbe) (is : new.probe.seq ≡ next_after latest) where
  newest : number_rank (next_after latest) new.probe.seq ≡ 65535
  newest = ap (number_rank (next_after latest)) is ∙ rank_of_next latest fits

  all_given : (s : ℕ) → s < 65536 → nat_eq (next_after latest) s ≡ false → (xs : List OpenProbe) → AreInOrder latest xs → AllByRecursion (λ q. number_rank latest s < number_rank latest q.probe.seq) xs
      → AllByRecursion (λ q. number_rank (next_after latest) s < number_rank (next_after latest) q.probe.seq) (without (next_after latest) xs ++ new ∷ [])
  all_given s h apart [] order above = (below_last _ _ _ (rank_after latest s fits h apart) (rank_fits latest s fits h) newest, tt)
  all_given s h apart (q ∷ rest) order above = elim (has_number (next_after latest) q) as (λ b. has_number (next_after latest) q ≡ b → AllByRecursion (λ r. number_rank (next_after latest) s < number_rank (next_after latest) r.probe.seq) (cond (not b) (q ∷ without (next_after latest) rest) (without (next_after latest) rest) ++ new ∷ [])) [
    | true ↦ λ t. all_given s h apart rest order.2 above.1
    | false ↦ λ t. (nearer _ _ _ _ (rank_after latest s fits h apart) (rank_after latest q.probe.seq fits order.0 t) above.0, all_given s h apart rest order.2 above.1)
  ] refl

  -- with the next probe they are in order
  pub in_order_given : (xs : List OpenProbe) → AreInOrder latest xs → AreInOrder (next_after latest) (without (next_after latest) xs ++ new ∷ [])
  in_order_given [] order = (subst (λ s. s < 65536) (sym is) (next_fits latest fits), tt, tt)
  in_order_given (p ∷ rest) order = elim (has_number (next_after latest) p) as (λ b. has_number (next_after latest) p ≡ b → AreInOrder (next_after latest) (cond (not b) (p ∷ without (next_after latest) rest) (without (next_after latest) rest) ++ new ∷ [])) [
    | true ↦ λ t. in_order_given rest order.2
    | false ↦ λ t. (order.0, all_given p.probe.seq order.0 t rest order.2 order.1, in_order_given rest order.2)
  ] refl

-- ---- what a number finds afterwards
pub find_without : (s n : ℕ) (xs : List OpenProbe) → find (has_number s) (without n xs) ≡ cond (nat_eq s n) None (find (has_number s) xs)
find_without s n [] = elim (nat_eq s n) as (λ b. ◌≡◌ {A = Option OpenProbe} None (cond b None None)) [ true ↦ refl | false ↦ refl ]
find_without s n (p ∷ rest) = elim (has_number n p) as (λ b. has_number n p ≡ b → find (has_number s) (cond (not b) (p ∷ without n rest) (without n rest)) ≡ cond (nat_eq s n) None (cond (has_number s p) (Some p) (find (has_number s) rest))) [
  | true ↦ λ t. find_without s n rest
      ∙ elim (nat_eq s n) as (λ b. cond b None (find (has_number s) rest) ≡ cond b None (cond b (Some p) (find (has_number s) rest))) [ true ↦ refl | false ↦ refl ]
      ∙ ap (λ b. cond (nat_eq s n) None (cond b (Some p) (find (has_number s) rest))) (sym (one_number n s p.probe.seq t))
  | false ↦ λ t. ap (cond (has_number s p) (Some p)) (find_without s n rest)
      ∙ elim (nat_eq s n) as (λ b. nat_eq s n ≡ b → cond (has_number s p) (Some p) (cond b None (find (has_number s) rest)) ≡ cond b None (cond (has_number s p) (Some p) (find (has_number s) rest))) [
        | true ↦ λ u. ap (λ b. cond b (Some p) None) (other_number n s p.probe.seq t u)
        | false ↦ λ u. refl
      ] refl
] refl

pub find_given : (s : ℕ) (new : OpenProbe) (xs : List OpenProbe) → find (has_number s) (without new.probe.seq xs ++ new ∷ []) ≡ cond (nat_eq s new.probe.seq) (Some new) (find (has_number s) xs)
find_given s new xs =
    find-append (has_number s) (without new.probe.seq xs) (new ∷ [])
    ∙ ap (λ o. option_or o (cond (nat_eq s new.probe.seq) (Some new) None)) (find_without s new.probe.seq xs)
    ∙ elim (nat_eq s new.probe.seq) as (λ b. option_or (cond b None (find (has_number s) xs)) (cond b (Some new) None) ≡ cond b (Some new) (find (has_number s) xs)) [
      | true ↦ refl
      | false ↦ itself (find (has_number s) xs)
    ]
  where
    itself : (o : Option OpenProbe) → option_or o None ≡ o
    itself None = refl
    itself (Some p) = refl
