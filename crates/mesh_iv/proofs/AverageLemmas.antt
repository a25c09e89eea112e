-- The average of a path by its row: the values of the last five numbers, whichever of them were heard.
use Rattle.std.proofs.Common.{◌≡◌, ⊎_elim, ℕ, zero, suc, ◌+◌, ◌-◌, ◌/◌, ◌<◌, ◌≤◌, nat_lt, nat_le, ◌==◌, Bool, true, false, cond, ◌&&◌, List, [], ◌∷◌, length, map, filter, take, sum, count_by, Some, arith, refl, sym, ap, ap₂, ◌∙◌}
use Rattle.std.proofs.lemmas.Bool.{cases_Bool, cases_lt, lt-ltb, le-ltb, ltb-false, ne_eqb}
use Rattle.std.proofs.lemmas.Bool.Decides.{nat_tests}
use Rattle.std.proofs.lemmas.List.Sums.{sum_by-cons}
use Rattle.mesh_base.specs.declared.address.Mac.{Mac}
use Rattle.mesh_model.specs.Routes.Life.{HeardOgm, newest, numbers_from, value_at}
use Rattle.mesh_model.specs.Routes.Numbers.{has, greatest, among, window}
use Rattle.mesh_model.specs.Routes.Quality.{mean, average_quality}
use Rattle.mesh_laws.proofs.WindowLemmas.{has-le, greatest-window}
use Rattle.mesh_algo.proofs.LifeLemmas.{and_false, numbers-le, unheard_value}
use Rattle.mesh_iv.specs.declared.path.Path.{Path}
use Rattle.mesh_iv.specs.Rows.{five, mean_of, value_below, average_of, row_of, path_row}

-- ---- a mean by sum and count
abbrev pub is_good : ℕ → Bool
is_good value = nat_lt 0 value

abbrev ratio : ℕ → ℕ → ℕ
ratio s n = cond (n == 0) 0 (s / n)

mean-ratio : (values : List ℕ) → mean values ≡ ratio (sum values) (length values)
mean-ratio [] = refl
mean-ratio (v ∷ values) = sym (ap (λ b. cond b 0 (sum (v ∷ values) / length (v ∷ values))) (ne_eqb (length (v ∷ values)) 0 (λ e. omega (arith, e))))

-- the sum and the count of the good values below a place
sum_upto : ℕ → (ℕ → ℕ) → ℕ
sum_upto zero w = 0
sum_upto (suc i) w = w i + sum_upto i w

count_upto : ℕ → (ℕ → ℕ) → ℕ
count_upto zero w = 0
count_upto (suc i) w = cond (is_good (w i)) 1 0 + count_upto i w

module _ (top : ℕ) (p : ℕ → Bool) (v : ℕ → ℕ) where
  -- the value of the number so far below the top, 0 where it doesn't pass
  abbrev value_back : ℕ → ℕ
  value_back i = cond (nat_le i top && p (top - i)) (v (top - i)) 0

  abbrev good_among : ℕ → List ℕ
  good_among count = filter is_good (map v (among top count p))

  sum_step : (b : Bool) (x : ℕ) (rest : List ℕ) → sum (filter is_good (map v (cond b (x ∷ rest) rest))) ≡ cond b (v x) 0 + sum (filter is_good (map v rest))
  sum_step false x rest = omega arith
  sum_step true x rest =
      elim (nat_lt 0 (v x)) as (λ b. nat_lt 0 (v x) ≡ b → sum (cond b (v x ∷ filter is_good (map v rest)) (filter is_good (map v rest))) ≡ v x + sum (filter is_good (map v rest))) [
        | true ↦ λ t. sum_by-cons (λ y. y) (v x) (filter is_good (map v rest))
        | false ↦ λ t. let none = ltb-false 0 (v x) t in omega (arith, none)
      ] refl

  count_step : (b : Bool) (x : ℕ) (rest : List ℕ) → length (filter is_good (map v (cond b (x ∷ rest) rest))) ≡ cond (is_good (cond b (v x) 0)) 1 0 + length (filter is_good (map v rest))
  count_step false x rest = omega arith
  count_step true x rest =
      elim (nat_lt 0 (v x)) as (λ b. length (cond b (v x ∷ filter is_good (map v rest)) (filter is_good (map v rest))) ≡ cond b 1 0 + length (filter is_good (map v rest))) [ true ↦ omega arith | false ↦ omega arith ]

  good_sum : (count : ℕ) → sum (good_among count) ≡ sum_upto count value_back
  unfolding among sum_upto
  good_sum zero = refl
  good_sum (suc k) = sum_step (nat_le k top && p (top - k)) (top - k) (among top k p) ∙ ap (λ s. value_back k + s) (good_sum k)

  good_count : (count : ℕ) → length (good_among count) ≡ count_upto count value_back
  unfolding among count_upto
  good_count zero = refl
  good_count (suc k) = count_step (nat_le k top && p (top - k)) (top - k) (among top k p) ∙ ap (λ s. cond (is_good (value_back k)) 1 0 + s) (good_count k)

five_sum : (w : ℕ → ℕ) → sum_upto 5 w ≡ sum (five w)
unfolding sum_upto
five_sum w = omega arith

five_count : (w : ℕ → ℕ) → count_upto 5 w ≡ count_by is_good (five w)
unfolding count_upto
five_count w = omega arith

good_mean : (top : ℕ) (p : ℕ → Bool) (v : ℕ → ℕ) → mean (good_among top p v 5) ≡ mean_of (five (value_back top p v))
good_mean top p v =
    mean-ratio (good_among top p v 5)
    ∙ ap₂ ratio (good_sum top p v 5 ∙ five_sum (value_back top p v)) (good_count top p v 5 ∙ five_count (value_back top p v))

-- ---- a row
-- a row that is there has the window of the numbers, and the values
pub row_parts : (numbers values : List ℕ) (path : Path) → row_of numbers values ≡ Some path → path ≡ record { heard = window numbers; values = values }
row_parts [] values path e = cc
row_parts (n ∷ numbers) values path e = cc

-- ---- values that lie further back
-- the value so far back, where nothing is within the first d places
abbrev moved : ℕ → (ℕ → ℕ) → ℕ → ℕ
moved d f i = cond (nat_lt i d) 0 (f (i - d))

pub five-agree : (f g : ℕ → ℕ) → ((i : ℕ) → i < 5 → f i ≡ g i) → five f ≡ five g
five-agree f g e = λ j. e 0 (omega arith) j ∷ e 1 (omega arith) j ∷ e 2 (omega arith) j ∷ e 3 (omega arith) j ∷ e 4 (omega arith) j ∷ []

moved_mean : (d : ℕ) (f : ℕ → ℕ) → mean_of (five (moved d f)) ≡ mean_of (take (5 - d) (five f))
moved_mean zero f = refl
moved_mean (suc zero) f = refl
moved_mean (suc (suc zero)) f = refl
moved_mean (suc (suc (suc zero))) f = refl
moved_mean (suc (suc (suc (suc zero)))) f = refl
moved_mean (suc (suc (suc (suc (suc d))))) f =
    let far = suc (suc (suc (suc (suc d)))) in
    let none : 5 - far ≡ 0 = omega arith in
    ap mean_of (five-agree (moved far f) (λ i. 0) (λ i lt. ap (λ b. cond b 0 (f (i - far))) (lt-ltb i far (omega arith))))
    ∙ sym (ap (λ n. mean_of (take n (five f))) none)

pub same_side : (i top g : ℕ) → g ≤ top → top - g ≤ i → nat_le i top ≡ nat_le (i - (top - g)) g
same_side i top g le ge = grind (arith, nat_tests)

either : (a b : Bool) (v : ℕ) → (b ≡ false → v ≡ 0) → cond (a && b) v 0 ≡ cond a v 0
either true true v none = refl
either true false v none = sym (none refl)
either false b v none = refl

module _ (k : Mac) (alive : List HeardOgm) where
  pub not_above : (n : ℕ) → greatest (numbers_from k alive) < n → has n (numbers_from k alive) ≡ false
  not_above n above = ⊎_elim (λ e. absurd (let le = has-le n (numbers_from k alive) e in omega (arith, le, above))) (λ e. e) (cases_Bool (has n (numbers_from k alive)))

  back : (i : ℕ) → value_back (newest alive) (λ n. has n (numbers_from k alive)) (λ n. value_at n k alive) i
      ≡ moved (newest alive - greatest (numbers_from k alive)) (λ j. value_below j k alive) i
  back i =
      let top = newest alive in let g = greatest (numbers_from k alive) in
      let le : g ≤ top = numbers-le k alive in
      ⊎_elim (λ near. ap (λ b. cond (nat_le i top && b) (value_at (top - i) k alive) 0) (not_above (top - i) (omega arith))
      ∙ ap (λ b. cond b (value_at (top - i) k alive) 0) (and_false (nat_le i top))
      ∙ sym (ap (λ b. cond b 0 (value_below (i - (top - g)) k alive)) (lt-ltb i (top - g) near)))
      (λ far. let e : top - i ≡ g - (i - (top - g)) = omega arith in
      either (nat_le i top) (has (top - i) (numbers_from k alive)) (value_at (top - i) k alive) (unheard_value (top - i) k alive)
      ∙ ap₂ (λ b n. cond b (value_at n k alive) 0) (same_side i top g le far) e
      ∙ sym (ap (λ b. cond b 0 (value_below (i - (top - g)) k alive)) (le-ltb i (top - g) far)))
      (cases_lt i (top - g))

  -- the average is the mean of the row's values that lie among the newest five numbers
  pub average_row : (path : Path) → path_row k alive ≡ Some path → average_quality alive k ≡ average_of (newest alive) path
  unfolding average_quality
  average_row path e =
      let numbers = numbers_from k alive in
      let d = newest alive - greatest numbers in
      let values : ℕ → ℕ = λ j. value_below j k alive in
      let row = row_parts numbers (five values) path e in
      good_mean (newest alive) (λ n. has n numbers) (λ n. value_at n k alive)
      ∙ ap mean_of (five-agree _ (moved d values) (λ i lt. back i))
      ∙ moved_mean d values
      ∙ ap (λ g. mean_of (take (5 - (newest alive - g)) (five values))) (sym (greatest-window numbers))
      ∙ ap (average_of (newest alive)) (sym row)
