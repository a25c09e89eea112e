-- The walk over the rows of one originator, which stand together in the order of pairs.
use Rattle.std.proofs.Common.{◌≡◌, ◌⊎◌, inl, inr, ⊎_elim, ℕ, zero, suc, ◌-◌, ◌<◌, ◌≤◌, nat_lt, Bool, true, false, cond, ◌&&◌, List, [], ◌∷◌, length, slice_get, get_or, drop, Option, is_eq, is_lt, arith, refl, sym, ap, ap₂, ◌∙◌, Ordering, Less, Equal, Greater}
use Rattle.std.specs.List.{AllByRecursion}
use Rattle.std.specs.List.Sorted.{IsStrictlySortedBy, IsPartitionedBy}
use Rattle.std.specs.Map.{keys_of}
use Rattle.std.specs.Ordering.{ordering_then, ordering_reverse}
use Rattle.std.proofs.lemmas.Bool.{cases_Bool, lt-ltb, false≢true, true≢false}
use Rattle.std.proofs.lemmas.Cmp.{alike_right}
use Rattle.std.proofs.lemmas.List.{get_or-map, length-map}
use Rattle.std.proofs.lemmas.Map.Keys.{Less-from_sorted}
use Rattle.mesh_base.specs.declared.address.Mac.{Mac}
use Rattle.mesh_model.specs.Routes.Addresses.{mac_order, same_mac, is_smaller}
use Rattle.mesh_laws.proofs.MacLemmas.{mac_total, same_by_order, same_exact, other_by_order}
use Rattle.mesh_algo.specs.declared.best.Best.{Best}
use Rattle.mesh_algo.specs.declared.pair.Pair.{Pair}
use Rattle.mesh_algo.specs.Pairs.{pair_order}
use Rattle.mesh_algo.specs.Walk.{is_row_of, walk, walk_front, better_row}

-- ---- originators in the order of pairs
first_then : (r s : Ordering) → ordering_then r s ≡ Less → (r ≡ Less) ⊎ (r ≡ Equal)
first_then Less s e = inl refl
first_then Equal s e = inr refl
first_then Greater s e = absurd (false≢true (ap is_lt e))

-- the originators of two pairs in order
orig_upto : (a b : Pair) → pair_order a b ≡ Less → (mac_order a.orig b.orig ≡ Less) ⊎ (mac_order a.orig b.orig ≡ Equal)
orig_upto a b e = first_then (mac_order a.orig b.orig) (mac_order a.from b.from) e

-- what is above the first is above the second
above_upto : (o : Mac) (a b : Pair) → pair_order a b ≡ Less → mac_order o a.orig ≡ Less → mac_order o b.orig ≡ Less
above_upto o a b e above =
    ⊎_elim (λ lt. mac_total.trans o a.orig b.orig above lt) (λ eq. sym (alike_right mac_total a.orig b.orig o eq) ∙ above) (orig_upto a b e)

below_upto : (o : Mac) (a b : Pair) → pair_order a b ≡ Less → mac_order b.orig o ≡ Less → mac_order a.orig o ≡ Less
below_upto o a b e below =
    ⊎_elim (λ lt. mac_total.trans a.orig b.orig o lt below) (λ eq. mac_total.congr a.orig b.orig o eq ∙ below) (orig_upto a b e)

less_from : (r : Ordering) → is_lt r ≡ true → r ≡ Less
less_from Less e = refl
less_from Equal e = absurd (false≢true e)
less_from Greater e = absurd (false≢true e)

-- an originator that is neither smaller nor the same is above
greater_from : (r : Ordering) → is_lt r ≡ false → is_eq r ≡ false → ordering_reverse r ≡ Less
greater_from Less lt eq = absurd (true≢false lt)
greater_from Equal lt eq = absurd (true≢false eq)
greater_from Greater lt eq = refl

above_from : (a o : Mac) → is_smaller a o ≡ false → same_mac a o ≡ false → mac_order o a ≡ Less
above_from a o lt eq = mac_total.antisymm o a ∙ greater_from (mac_order a o) lt (same_by_order a o ∙ eq)

-- ---- rows of other originators change nothing
module _ {X : Type 0} (score : Mac → X → ℕ) (orig : Mac) where
  other_row : (best : Option Best) (e : Pair × X) (rows : List (Pair × X)) → same_mac e.0.orig orig ≡ false → walk score orig best (e ∷ rows) ≡ walk score orig best rows
  other_row best e rows n = ap (λ b. cond b (walk score orig (better_row best e.0.from (score e.0.from e.1)) rows) (walk score orig best rows)) n

  all_above : (best : Option Best) (k : Pair) (rows : List (Pair × X)) → mac_order orig k.orig ≡ Less → AllByRecursion (λ y. pair_order k y ≡ Less) (keys_of rows) → walk score orig best rows ≡ best
  all_above best k [] above h = refl
  all_above best k (e ∷ rows) above h =
      other_row best e rows (other_by_order orig e.0.orig (above_upto orig k e.0 h.0 above)) ∙ all_above best k rows above h.1

  -- from the first row that isn't below the originator, its rows come first
  front : (best : Option Best) (rows : List (Pair × X)) → IsStrictlySortedBy pair_order (keys_of rows) → ((j : ℕ) (d : Pair × X) → j < length rows → is_smaller (get_or rows j d).0.orig orig ≡ false) → walk_front score orig best rows ≡ walk score orig best rows
  unfolding IsStrictlySortedBy
  front best [] sorted after = refl
  front best (e ∷ rows) sorted after =
      elim (same_mac e.0.orig orig) as (λ b. same_mac e.0.orig orig ≡ b → cond b (walk_front score orig (better_row best e.0.from (score e.0.from e.1)) rows) best
      ≡ cond b (walk score orig (better_row best e.0.from (score e.0.from e.1)) rows) (walk score orig best rows)) [
        | true ↦ λ t. front (better_row best e.0.from (score e.0.from e.1)) rows sorted.1 (λ j d lt. after (suc j) d (omega arith))
        | false ↦ λ n. sym (all_above best e.0 rows (above_from e.0.orig orig (after 0 e (omega arith)) n) sorted.0)
      ] refl

  not_below : (a : Mac) → is_smaller a orig ≡ true → same_mac a orig ≡ false
  not_below a lt = sym (same_by_order a orig) ∙ ap is_eq (less_from (mac_order a orig) lt)

  -- the walk over all rows is that from the first row on that isn't below the originator
  pub front_walk : (best : Option Best) (rows : List (Pair × X)) (i : ℕ) → IsStrictlySortedBy pair_order (keys_of rows) → i ≤ length rows
      → ((j : ℕ) (d : Pair × X) → j < i → is_smaller (get_or rows j d).0.orig orig ≡ true)
      → ((j : ℕ) (d : Pair × X) → i ≤ j → j < length rows → is_smaller (get_or rows j d).0.orig orig ≡ false)
      → walk_front score orig best (drop i rows) ≡ walk score orig best rows
  unfolding IsStrictlySortedBy
  front_walk best [] zero sorted le before after = refl
  front_walk best [] (suc i) sorted le before after = refl
  front_walk best (e ∷ rows) zero sorted le before after = front best (e ∷ rows) sorted (λ j d lt. after j d (omega arith) lt)
  front_walk best (e ∷ rows) (suc i) sorted le before after =
      front_walk best rows i sorted.1 (omega (arith, le)) (λ j d lt. before (suc j) d (omega arith)) (λ j d low lt. after (suc j) d (omega arith) (omega arith))
      ∙ sym (other_row best e rows (not_below e.0.orig (before 0 e (omega arith))))

  -- ---- rows below the originator come first
  head_below : (k : Pair) (rows : List (Pair × X)) → AllByRecursion (λ y. pair_order k y ≡ Less) (keys_of rows) → (j : ℕ) (d : Pair × X) → j < length rows → is_smaller (get_or rows j d).0.orig orig ≡ true → is_smaller k.orig orig ≡ true
  head_below k [] h j d lt below = absurd (omega (arith, lt))
  head_below k (e ∷ rows) h zero d lt below = ap is_lt (below_upto orig k e.0 h.0 (less_from _ below))
  head_below k (e ∷ rows) h (suc j) d lt below = head_below k rows h.1 j d (omega (arith, lt)) below

  pub partitioned : (rows : List (Pair × X)) → IsStrictlySortedBy pair_order (keys_of rows) → IsPartitionedBy (λ e. is_smaller e.0.orig orig) rows
  unfolding IsStrictlySortedBy
  partitioned [] sorted i j d le lt below = absurd (omega (arith, lt))
  partitioned (e ∷ rows) sorted zero zero d le lt below = below
  partitioned (e ∷ rows) sorted zero (suc j) d le lt below = head_below e.0 rows sorted.0 j d (omega (arith, lt)) below
  partitioned (e ∷ rows) sorted (suc i) zero d le lt below = absurd (omega (arith, le))
  partitioned (e ∷ rows) sorted (suc i) (suc j) d le lt below = partitioned rows sorted.1 i j d (omega (arith, le)) (omega (arith, lt)) below

  -- ---- the first row of the originator, from a row of it back
  same_there : (rows : List (Pair × X)) (i : ℕ) → is_row_of orig (slice_get rows i) ≡ true → (d : Pair × X) → same_mac (get_or rows i d).0.orig orig ≡ true
  same_there [] i t d = absurd (false≢true t)
  same_there (e ∷ rows) zero t d = t
  same_there (e ∷ rows) (suc i) t d = same_there rows i t d

  there : (rows : List (Pair × X)) (i : ℕ) → is_row_of orig (slice_get rows i) ≡ true → i < length rows
  there [] i t = absurd (false≢true t)
  there (e ∷ rows) zero t = omega arith
  there (e ∷ rows) (suc i) t = let lt = there rows i t in omega (arith, lt)

  other_there : (rows : List (Pair × X)) (i : ℕ) → i < length rows → is_row_of orig (slice_get rows i) ≡ false → (d : Pair × X) → same_mac (get_or rows i d).0.orig orig ≡ false
  other_there [] i lt f d = absurd (omega (arith, lt))
  other_there (e ∷ rows) zero lt f d = f
  other_there (e ∷ rows) (suc i) lt f d = other_there rows i (omega (arith, lt)) f d

  -- a row before one of the originator is of a smaller one, if it isn't the originator's
  smaller_before : (a b : Pair) → pair_order a b ≡ Less → same_mac b.orig orig ≡ true → same_mac a.orig orig ≡ false → is_smaller a.orig orig ≡ true
  smaller_before a b less own other =
      let b_is = same_exact b.orig orig own in
      ⊎_elim (λ lt. ap is_lt (sym (ap (λ o. mac_order a.orig o) b_is) ∙ lt))
      (λ eq. absurd (false≢true (sym other ∙ sym (same_by_order a.orig orig) ∙ ap is_eq (sym (ap (λ o. mac_order a.orig o) b_is) ∙ eq)))) (orig_upto a b less)

  not_smaller : (a : Mac) → same_mac a orig ≡ true → is_smaller a orig ≡ true → ⊥
  not_smaller a own below = false≢true (sym (not_below a below) ∙ own)

  pub back_walk : (best : Option Best) (rows : List (Pair × X)) (i : ℕ) → IsStrictlySortedBy pair_order (keys_of rows)
      → is_row_of orig (slice_get rows i) ≡ true → (nat_lt 0 i && is_row_of orig (slice_get rows (i - 1))) ≡ false
      → walk_front score orig best (drop i rows) ≡ walk score orig best rows
  back_walk best rows i sorted own before =
      let within = there rows i own in
      let parted = partitioned rows sorted in
      front_walk best rows i sorted (omega (arith, within))
      (λ j d lt. parted j (i - 1) d (omega (arith, lt)) (omega (arith, lt, within))
      (smaller_before (get_or rows (i - 1) d).0 (get_or rows i d).0 (keys_less rows sorted i d (omega (arith, lt)) within) (same_there rows i own d)
      (other_there rows (i - 1) (omega (arith, within)) (other_before i _ (omega (arith, lt)) before) d)))
      (λ j d low lt. ⊎_elim (λ t. absurd (not_smaller (get_or rows i d).0.orig (same_there rows i own d) (parted i j d low lt t))) (λ f. f) (cases_Bool (is_smaller (get_or rows j d).0.orig orig)))
    where
      other_before : (i : ℕ) (b : Bool) → 0 < i → (nat_lt 0 i && b) ≡ false → b ≡ false
      other_before i b pos f = sym (ap (λ t. t && b) (lt-ltb 0 i pos)) ∙ f

      keys_less : (rows : List (Pair × X)) → IsStrictlySortedBy pair_order (keys_of rows) → (i : ℕ) (d : Pair × X) → 0 < i → i < length rows → pair_order (get_or rows (i - 1) d).0 (get_or rows i d).0 ≡ Less
      keys_less rows sorted i d pos lt =
          let many = length-map rows (λ (e : Pair × X). e.0) in
          ap₂ (λ a b. pair_order a b) (sym (get_or-map (λ (e : Pair × X). e.0) rows (i - 1) d d.0 (omega (arith, lt)))) (sym (get_or-map (λ (e : Pair × X). e.0) rows i d d.0 lt))
          ∙ Less-from_sorted pair_order (keys_of rows) (i - 1) i d.0 sorted (omega (arith, pos)) (omega (arith, many, lt))
