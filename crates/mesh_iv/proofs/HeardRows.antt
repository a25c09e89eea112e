-- How a hearing changes the row of a neighbour in a life.
use Rattle.std.proofs.Common.{◌≡◌, ⊎_elim, ℕ, zero, suc, ◌-◌, ◌<◌, ◌≤◌, max, nat_eq, nat_lt, nat_le, ◌==◌, Bool, true, false, cond, not, List, [], ◌∷◌, slice_index, unwrap_or, Option, Some, arith, refl, sym, ap, ap₂, ◌∙◌}
use Rattle.std.proofs.lemmas.Bool.{cases_lt, cases_eq, and_parts, not-true, lt-ltb, le-ltb, le-leb, lt-leb, eq-eqb, ne_eqb, true≢false}
use Rattle.mesh_base.specs.declared.address.Mac.{Mac}
use Rattle.mesh_model.specs.Routes.Addresses.{same_mac}
use Rattle.mesh_model.specs.Routes.Life.{HeardOgm, numbers_from, is_first, value_at}
use Rattle.mesh_model.specs.Routes.Numbers.{has, greatest, window}
use Rattle.mesh_laws.proofs.WindowLemmas.{greatest-window, window-cons}
use Rattle.mesh_algo.proofs.LifeLemmas.{own_numbers, first_value, unheard_value}
use Rattle.mesh_algo.proofs.LifeRows.{greatest_again, window_again, window_nil}
use Rattle.mesh_algo.proofs.HeardPaths as paths
use Rattle.mesh_iv.specs.declared.path.Path.{Path}
use Rattle.mesh_iv.specs.Hears.{kept_row}
use Rattle.mesh_iv.specs.Rows.{five, value_below, value_moved, value_with, path_with, blank, row_of, path_row}
use Rattle.mesh_iv.proofs.AverageLemmas.{five-agree, same_side, not_above}

-- ---- a row by its numbers and their values
abbrev values_by : ℕ → (ℕ → ℕ) → List ℕ
values_by top value = five (λ back. cond (nat_le back top) (value (top - back)) 0)

abbrev row_by : List ℕ → (ℕ → ℕ) → Option Path
row_by numbers value = row_of numbers (values_by (greatest numbers) value)

again_row : (s : ℕ) (numbers : List ℕ) (value : ℕ → ℕ) → has s numbers ≡ true → row_by (s ∷ numbers) value ≡ row_by numbers value
again_row s [] value h = absurd (true≢false (sym h))
again_row s (n ∷ numbers) value h =
    ap₂ (λ w g. Some (record { heard = w; values = values_by g value })) (window_again s (n ∷ numbers) h) (greatest_again s (n ∷ numbers) h)

-- a hearing over another neighbour leaves the row
pub other_row : (k : Mac) (h : HeardOgm) (alive : List HeardOgm) → same_mac h.from k ≡ false → path_row k (h ∷ alive) ≡ path_row k alive
other_row = paths.other_row row_by again_row

-- so does one that is late or repeated
pub touched_row : (k : Mac) (h : HeardOgm) (alive : List HeardOgm) → is_first h alive ≡ false → path_row k (h ∷ alive) ≡ path_row k alive
touched_row = paths.touched_row row_by again_row

-- ---- a row in a life
-- where nothing was heard the values are 0
blank_values : (k : Mac) (alive : List HeardOgm) → numbers_from k alive ≡ [] → five (λ back. 0) ≡ five (λ back. value_below back k alive)
blank_values k alive none =
    five-agree (λ back. 0) (λ back. value_below back k alive) (λ back lt. sym (no_value (nat_le back (greatest (numbers_from k alive))) _ (unheard_value _ k alive (ap (λ l. has (greatest (numbers_from k alive) - back) l) none))))
  where
    no_value : (b : Bool) (v : ℕ) → v ≡ 0 → cond b v 0 ≡ 0
    no_value true v e = e
    no_value false v e = refl

pub unwrapped : (numbers values : List ℕ) → (numbers ≡ [] → five (λ back. 0) ≡ values) → unwrap_or (row_of numbers values) blank ≡ record { heard = window numbers; values = values }
unwrapped [] values empty = ap₂ (λ w v. record { heard = w; values = v }) (sym window_nil) (empty refl)
unwrapped (n ∷ numbers) values empty = refl

pub kept_by_row : (k : Mac) (alive : List HeardOgm) → unwrap_or (path_row k alive) blank ≡ kept_row k alive
kept_by_row k alive = unwrapped (numbers_from k alive) (five (λ back. value_below back k alive)) (blank_values k alive)

-- ---- the first hearing of a number
index_five : (f : ℕ → ℕ) (j : ℕ) → j < 5 → slice_index (five f) j ≡ f j
index_five f zero lt = refl
index_five f (suc zero) lt = refl
index_five f (suc (suc zero)) lt = refl
index_five f (suc (suc (suc zero))) lt = refl
index_five f (suc (suc (suc (suc zero)))) lt = refl
index_five f (suc (suc (suc (suc (suc j))))) lt = absurd (omega (arith, lt))

-- the value so far below the top, with a number s more, where v has those before it, of which g is the greatest
module _ (top s g i value : ℕ) (v : ℕ → ℕ) (above_s : s ≤ top) (above_g : g ≤ top) where
  abbrev place_before : ℕ
  place_before = cond (nat_lt i (top - g)) 0 (cond (nat_le (i - (top - g)) g) (v (g - (i - (top - g)))) 0)

  at_s : i ≡ top - s → cond (nat_le i top) (cond (nat_eq s (top - i)) value (v (top - i))) 0 ≡ value
  at_s e = let le : i ≤ top = omega arith in let back : s ≡ top - i = omega arith in ap₂ (λ a b. cond a (cond b value (v (top - i))) 0) (le-leb i top le) (eq-eqb s (top - i) back)

  not_s : (i ≡ top - s → ⊥) → cond (nat_le i top) (cond (nat_eq s (top - i)) value (v (top - i))) 0 ≡ cond (nat_le i top) (v (top - i)) 0
  not_s n =
      ⊎_elim (λ above. ap (λ b. cond b (cond (nat_eq s (top - i)) value (v (top - i))) 0) (lt-leb i top above) ∙ sym (ap (λ b. cond b (v (top - i)) 0) (lt-leb i top above)))
      (λ le. ap (λ b. cond (nat_le i top) (cond b value (v (top - i))) 0) (ne_eqb s (top - i) (λ e. n (omega (arith, e)))))
      (cases_lt top i)

  back_g : ((n : ℕ) → g < n → v n ≡ 0) → cond (nat_le i top) (v (top - i)) 0 ≡ place_before
  back_g zero_above =
      ⊎_elim (λ near. let le : i ≤ top = omega arith in
      ap (λ b. cond b (v (top - i)) 0) (le-leb i top le) ∙ zero_above (top - i) (omega arith)
      ∙ sym (ap (λ b. cond b 0 (cond (nat_le (i - (top - g)) g) (v (g - (i - (top - g)))) 0)) (lt-ltb i (top - g) near)))
      (λ far. let e : top - i ≡ g - (i - (top - g)) = omega arith in
      ap₂ (λ b n. cond b (v n) 0) (same_side i top g above_g far) e
      ∙ sym (ap (λ b. cond b 0 (cond (nat_le (i - (top - g)) g) (v (g - (i - (top - g)))) 0)) (le-ltb i (top - g) far)))
      (cases_lt i (top - g))

  place_after : ((n : ℕ) → g < n → v n ≡ 0) → cond (nat_le i top) (cond (nat_eq s (top - i)) value (v (top - i))) 0 ≡ cond (i == (top - s)) value place_before
  place_after zero_above =
      ⊎_elim (λ e. at_s e ∙ sym (ap (λ b. cond b value place_before) (eq-eqb i (top - s) e)))
      (λ n. not_s n ∙ back_g zero_above ∙ sym (ap (λ b. cond b value place_before) (ne_eqb i (top - s) n)))
      (cases_eq i (top - s))

module _ (k : Mac) (h : HeardOgm) (alive : List HeardOgm) (first : is_first h alive ≡ true) (same : same_mac h.from k ≡ true) where
  timely : h.late ≡ false
  timely = not-true h.late (and_parts (not h.late) _ first).0

  -- the value at a place
  place : (i : ℕ) → i < 5 → cond (nat_le i (greatest (h.seq ∷ numbers_from k alive))) (value_at (greatest (h.seq ∷ numbers_from k alive) - i) k (h ∷ alive)) 0
      ≡ value_with (kept_row k alive) h.seq h.value i
  place i lt =
      let numbers = numbers_from k alive in
      let s = h.seq in
      let g = greatest numbers in
      let top = max s g in
      let value : ℕ → ℕ = λ j. value_below j k alive in
      let swap : max g s ≡ max s g = omega arith in
      ap (λ x. cond (nat_le i top) x 0) (first_value (top - i) k h alive first same)
      ∙ place_after top s g i h.value (λ n. value_at n k alive) (omega arith) (omega arith) (λ n above. unheard_value n k alive (not_above k alive n above))
      ∙ ap (λ x. cond (i == (top - s)) h.value (cond (nat_lt i (top - g)) 0 x)) (sym (index_five value (i - (top - g)) (omega (arith, lt))))
      ∙ ap (λ t. cond (i == (t - s)) h.value (value_moved (five value) i (t - g))) (sym swap)
      ∙ ap (λ w. cond (i == (max w s - s)) h.value (value_moved (five value) i (max w s - w))) (sym (greatest-window numbers))

  -- the row has the number and its value
  pub first_row : path_row k (h ∷ alive) ≡ Some (path_with (kept_row k alive) h.seq h.value)
  first_row =
      ap (λ numbers. row_of numbers (values_by (greatest numbers) (λ n. value_at n k (h ∷ alive)))) (own_numbers k h alive timely same)
      ∙ ap₂ (λ w v. Some (record { heard = w; values = v })) (sym (window-cons h.seq (numbers_from k alive)))
      (five-agree _ (value_with (kept_row k alive) h.seq h.value) place)
