-- What a life has of one neighbour, and how a hearing changes it.
use Rattle.std.proofs.Common.{◌≡◌, ⊎_elim, ℕ, ◌≤◌, max, nat_eq, Bool, true, false, cond, not, ◌&&◌, ◌||◌, List, [], ◌∷◌, arith, refl, sym, ap, ap₂, ◌∙◌}
use Rattle.std.proofs.lemmas.Bool.{cases_Bool, eqb-true, eq-eqb, ne_eqb, true≢false}
use Rattle.mesh_base.specs.declared.address.Mac.{Mac}
use Rattle.mesh_model.specs.Routes.Addresses.{same_mac}
use Rattle.mesh_model.specs.Routes.Life.{HeardOgm, of, since, life, newest, numbers_from, is_first, forwarded, value_at}
use Rattle.mesh_model.specs.Routes.Numbers.{has, greatest}

-- ---- tests
pub and_false : (a : Bool) → (a && false) ≡ false
and_false true = refl
and_false false = refl

pub eq_back : (m n : ℕ) → nat_eq m n ≡ nat_eq n m
eq_back m n = ⊎_elim (λ e. e ∙ sym (eq-eqb n m (sym (eqb-true m n e)))) (λ e. e ∙ sym (ne_eqb n m (λ same. true≢false (sym (eq-eqb m n (sym same)) ∙ e)))) (cases_Bool (nat_eq m n))

pub or_parts : (a b : Bool) → (a || b) ≡ false → (a ≡ false) × (b ≡ false)
or_parts true b e = absurd (true≢false e)
or_parts false b e = (refl, e)

-- ---- lives
-- of the hearings before one its life has those of the life at its moment, where it is no restart
pub since-life : (h : HeardOgm) (older : List HeardOgm) → h.restart ≡ false → since h older ≡ life h.moment older
since-life h older same = ap (λ b. cond b [] (life h.moment older)) same

-- a restart begins its life
pub since-restart : (h : HeardOgm) (older : List HeardOgm) → h.restart ≡ true → since h older ≡ []
since-restart h older anew = ap (λ b. cond b [] (life h.moment older)) anew

pub of_same : (o : Mac) (h : HeardOgm) (older : List HeardOgm) → same_mac h.orig o ≡ true → of o (h ∷ older) ≡ h ∷ of o older
of_same o h older e = ap (λ b. cond b (h ∷ of o older) (of o older)) e

pub of_other : (o : Mac) (h : HeardOgm) (older : List HeardOgm) → same_mac h.orig o ≡ false → of o (h ∷ older) ≡ of o older
of_other o h older e = ap (λ b. cond b (h ∷ of o older) (of o older)) e

-- ---- numbers from a neighbour
module _ (k : Mac) (h : HeardOgm) (alive : List HeardOgm) where
  pub other_numbers : same_mac h.from k ≡ false → numbers_from k (h ∷ alive) ≡ numbers_from k alive
  other_numbers e = ap (λ b. cond (not h.late && b) (h.seq ∷ numbers_from k alive) (numbers_from k alive)) e ∙ ap (λ b. cond b (h.seq ∷ numbers_from k alive) (numbers_from k alive)) (and_false (not h.late))

  pub late_numbers : h.late ≡ true → numbers_from k (h ∷ alive) ≡ numbers_from k alive
  late_numbers e = ap (λ b. cond (not b && same_mac h.from k) (h.seq ∷ numbers_from k alive) (numbers_from k alive)) e

  pub own_numbers : h.late ≡ false → same_mac h.from k ≡ true → numbers_from k (h ∷ alive) ≡ h.seq ∷ numbers_from k alive
  own_numbers e s = ap₂ (λ a b. cond (not a && b) (h.seq ∷ numbers_from k alive) (numbers_from k alive)) e s

  pub late_newest : h.late ≡ true → newest (h ∷ alive) ≡ newest alive
  late_newest e = ap (λ b. cond b (newest alive) (max h.seq (newest alive))) e

  pub next_newest : h.late ≡ false → newest (h ∷ alive) ≡ max h.seq (newest alive)
  next_newest e = ap (λ b. cond b (newest alive) (max h.seq (newest alive))) e

  pub late_forwarded : h.late ≡ true → forwarded (h ∷ alive) ≡ forwarded alive
  late_forwarded e = ap (λ b. cond (not b && h.sent_on) (h.seq ∷ forwarded alive) (forwarded alive)) e

  pub next_forwarded : h.late ≡ false → forwarded (h ∷ alive) ≡ cond h.sent_on (h.seq ∷ forwarded alive) (forwarded alive)
  next_forwarded e = ap (λ b. cond (not b && h.sent_on) (h.seq ∷ forwarded alive) (forwarded alive)) e

-- no number passes the newest
le_step : (late s : Bool) (seq n top : ℕ) (seen : List ℕ) → greatest seen ≡ n → n ≤ top → greatest (cond (not late && s) (seq ∷ seen) seen) ≤ cond late top (max seq top)
le_step true s seq n top seen e le = omega (arith, e)
le_step false true seq n top seen e le = omega (arith, e)
le_step false false seq n top seen e le = omega (arith, e)

pub numbers-le : (k : Mac) (alive : List HeardOgm) → greatest (numbers_from k alive) ≤ newest alive
numbers-le k [] = omega arith
numbers-le k (h ∷ alive) = le_step h.late (same_mac h.from k) h.seq _ (newest alive) (numbers_from k alive) refl (numbers-le k alive)

pub forwarded-le : (alive : List HeardOgm) → greatest (forwarded alive) ≤ newest alive
forwarded-le [] = omega arith
forwarded-le (h ∷ alive) = le_step h.late h.sent_on h.seq _ (newest alive) (forwarded alive) refl (forwarded-le alive)

-- ---- values
unheard_step : (a f s : Bool) (n seq : ℕ) (seen : List ℕ) (value rest : ℕ) → has n (cond (a && s) (seq ∷ seen) seen) ≡ false → (has n seen ≡ false → rest ≡ 0) → cond ((a && f) && (s && nat_eq seq n)) value rest ≡ 0
unheard_step true f true n seq seen value rest no_number later =
    let parts = or_parts (nat_eq n seq) (has n seen) no_number in
    ap (λ b. cond (f && b) value rest) (eq_back seq n ∙ parts.0) ∙ ap (λ b. cond b value rest) (and_false f) ∙ later parts.1
unheard_step true f false n seq seen value rest no_number later = ap (λ b. cond b value rest) (and_false f) ∙ later no_number
unheard_step false f s n seq seen value rest no_number later = later no_number

-- a number that wasn't heard has no value
pub unheard_value : (n : ℕ) (k : Mac) (alive : List HeardOgm) → has n (numbers_from k alive) ≡ false → value_at n k alive ≡ 0
unheard_value n k [] e = refl
unheard_value n k (h ∷ alive) e =
    unheard_step (not h.late) (not (has h.seq (numbers_from h.from alive))) (same_mac h.from k) n h.seq (numbers_from k alive) h.value (value_at n k alive) e (unheard_value n k alive)

module _ (n : ℕ) (k : Mac) (h : HeardOgm) (alive : List HeardOgm) where
  -- a hearing over another neighbour changes no value
  pub other_value : same_mac h.from k ≡ false → value_at n k (h ∷ alive) ≡ value_at n k alive
  other_value e = ap (λ b. cond (is_first h alive && (b && nat_eq h.seq n)) h.value (value_at n k alive)) e ∙ ap (λ b. cond b h.value (value_at n k alive)) (and_false (is_first h alive))

  -- nor does one that isn't the first of its number
  pub again_value : is_first h alive ≡ false → value_at n k (h ∷ alive) ≡ value_at n k alive
  again_value e = ap (λ b. cond (b && (same_mac h.from k && nat_eq h.seq n)) h.value (value_at n k alive)) e

  -- the first hearing of a number gives its value, and no other
  pub first_value : is_first h alive ≡ true → same_mac h.from k ≡ true → value_at n k (h ∷ alive) ≡ cond (nat_eq h.seq n) h.value (value_at n k alive)
  first_value e s = ap₂ (λ a b. cond (a && (b && nat_eq h.seq n)) h.value (value_at n k alive)) e s
