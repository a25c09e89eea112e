-- What the rows say, and how a hearing changes that of a neighbour in a life.
use Rattle.std.proofs.Common.{◌≡◌, ⊎_elim, ℕ, ◌+◌, ◌-◌, ◌≤◌, ◌<◌, max, nat_eq, nat_lt, nat_le, Bool, true, false, cond, List, [], ◌∷◌, unwrap_or, Option, Some, None, arith, refl, sym, ap, ap₂, ◌∙◌}
use Rattle.std.specs.Option.{option_map_or}
use Rattle.std.proofs.lemmas.Bool.{cases_lt, le-leb, lt-leb, eq-eqb, ne_eqb, true≢false}
use Rattle.mesh_base.specs.declared.address.Mac.{Mac}
use Rattle.mesh_model.specs.Routes.Addresses.{same_mac}
use Rattle.mesh_model.specs.Routes.HearingsV.{heard_v, last_number, path_throughput}
use Rattle.mesh_model.specs.Routes.Life.{HeardOgm, life_span, of, since, life, newest, numbers_from, is_first, value_at}
use Rattle.mesh_model.specs.Routes.Neighbours.{ElpHeard, is_up, is_young, last_elp}
use Rattle.mesh_model.specs.Routes.Numbers.{has, greatest, window}
use Rattle.mesh_model.specs.Routes.RouteLog.{RouteLog}
use Rattle.mesh_laws.proofs.WindowLemmas.{greatest-window, window-cons}
use Rattle.mesh_algo.specs.declared.life.Life.{Life}
use Rattle.mesh_algo.specs.LifeRows.{latest, life_row}
use Rattle.mesh_algo.proofs.HearingLemmas.{timely_from}
use Rattle.mesh_algo.proofs.LifeLemmas.{first_value, own_numbers, unheard_value}
use Rattle.mesh_algo.proofs.LifeRows.{greatest_again, window_again, window_nil}
use Rattle.mesh_algo.proofs.HeardPaths as paths
use Rattle.mesh_v.specs.declared.path.Path.{Path}
use Rattle.mesh_v.specs.declared.row.LastElp.{LastElp}
use Rattle.mesh_v.specs.Hears.{kept_row}
use Rattle.mesh_v.specs.Rows.{blank, elp_in, elp_row, is_up_by, life_in, orig_with, path_row, path_score, path_with, row_of, still_life, up_in}
use Rattle.mesh_v.specs.Tables.{StandsFor, Tables}

-- ---- originators
pub life_kept : (alive : Option Life) (elp : Option LastElp) → life_in (orig_with alive elp) ≡ alive
life_kept None None = refl
life_kept None (Some elp) = refl
life_kept (Some row) elp = refl

pub elp_kept : (alive : Option Life) (elp : Option LastElp) → elp_in (orig_with alive elp) ≡ elp
elp_kept None None = refl
elp_kept None (Some elp) = refl
elp_kept (Some row) elp = refl

pub up_by_row : (moment : ℕ) (elp : Option ElpHeard) → is_up_by moment (elp_row elp) ≡ option_map_or (is_young moment) elp false
up_by_row moment None = refl
up_by_row moment (Some elp) = refl

-- whether a neighbour is up, by its row
pub up_of_row : (alive : Option Life) (elp : Option ElpHeard) (moment : ℕ) → is_up_by moment (elp_in (orig_with alive (elp_row elp))) ≡ option_map_or (is_young moment) elp false
up_of_row alive elp moment = ap (is_up_by moment) (elp_kept alive (elp_row elp)) ∙ up_by_row moment elp

pub up_is : (me : Mac) (tables : Tables) (log : RouteLog) → StandsFor me tables log → (moment : ℕ) (k : Mac) → up_in moment tables.origs k ≡ is_up moment k log
up_is me tables log stands moment k =
    ap (λ row. is_up_by moment (elp_in row)) (stands.origs_stand.are k) ∙ up_of_row (life_row (latest (of k (heard_v me log)))) (last_elp k log) moment

-- the life at a moment, by the row of the last one
still : (moment : ℕ) (hearings : List HeardOgm) → still_life moment (life_row (latest hearings)) ≡ life_row (life moment hearings)
still moment [] = refl
still moment (h ∷ older) =
    elim (nat_lt (moment - h.moment) life_span) as (λ b. cond b (life_row (h ∷ since h older)) None ≡ life_row (cond b (h ∷ since h older) [])) [ true ↦ refl | false ↦ refl ]

pub life_of_row : (moment : ℕ) (hearings : List HeardOgm) (elp : Option LastElp) → still_life moment (life_in (orig_with (life_row (latest hearings)) elp)) ≡ life_row (life moment hearings)
life_of_row moment hearings elp = ap (still_life moment) (life_kept (life_row (latest hearings)) elp) ∙ still moment hearings

-- ---- a row by its numbers and their values
again_row : (s : ℕ) (numbers : List ℕ) (value : ℕ → ℕ) → has s numbers ≡ true → row_of (s ∷ numbers) value ≡ row_of numbers value
again_row s [] value h = absurd (true≢false (sym h))
again_row s (n ∷ numbers) value h =
    ap₂ (λ w g. Some (record { heard = w; value = value g })) (window_again s (n ∷ numbers) h) (greatest_again s (n ∷ numbers) h)

-- a hearing over another neighbour leaves the row
pub other_row : (k : Mac) (h : HeardOgm) (alive : List HeardOgm) → same_mac h.from k ≡ false → path_row k (h ∷ alive) ≡ path_row k alive
other_row = paths.other_row row_of again_row

-- so does one that is late or repeated
pub touched_row : (k : Mac) (h : HeardOgm) (alive : List HeardOgm) → is_first h alive ≡ false → path_row k (h ∷ alive) ≡ path_row k alive
touched_row = paths.touched_row row_of again_row

-- ---- a row in a life
unwrapped : (numbers : List ℕ) (value : ℕ → ℕ) → (numbers ≡ [] → value 0 ≡ 0) → unwrap_or (row_of numbers value) blank ≡ record { heard = window numbers; value = value (greatest numbers) }
unwrapped [] value none = ap₂ (λ w v. record { heard = w; value = v }) (sym window_nil) (sym (none refl))
unwrapped (n ∷ numbers) value none = refl

pub kept_by_row : (k : Mac) (alive : List HeardOgm) → unwrap_or (path_row k alive) blank ≡ kept_row k alive
kept_by_row k alive = unwrapped (numbers_from k alive) (λ n. value_at n k alive) (λ none. unheard_value 0 k alive (ap (λ l. has 0 l) none))

-- ---- the first hearing of a number
module _ (k : Mac) (h : HeardOgm) (alive : List HeardOgm) (first : is_first h alive ≡ true) (same : same_mac h.from k ≡ true) where
  value_then : value_at (greatest (h.seq ∷ numbers_from k alive)) k (h ∷ alive) ≡ cond (nat_le (last_number alive k) h.seq) h.value (value_at (last_number alive k) k alive)
  value_then =
      let g = last_number alive k in
      first_value (max h.seq g) k h alive first same
      ∙ ⊎_elim (λ (above : h.seq < g).
      let top : max h.seq g ≡ g = omega (arith, above) in
      ap (λ n. cond (nat_eq h.seq n) h.value (value_at n k alive)) top
      ∙ ap (λ b. cond b h.value (value_at g k alive)) (ne_eqb h.seq g (λ e. omega (arith, e, above)))
      ∙ sym (ap (λ b. cond b h.value (value_at g k alive)) (lt-leb g h.seq above)))
      (λ (upto : g ≤ h.seq).
      let top : h.seq ≡ max h.seq g = omega (arith, upto) in
      ap (λ b. cond b h.value (value_at (max h.seq g) k alive)) (eq-eqb h.seq (max h.seq g) top)
      ∙ sym (ap (λ b. cond b h.value (value_at g k alive)) (le-leb g h.seq upto)))
      (cases_lt h.seq g)

  -- the row has the number, and its value where none greater was heard
  pub first_row : path_row k (h ∷ alive) ≡ Some (path_with (kept_row k alive) h.seq h.value)
  first_row =
      ap (λ numbers. row_of numbers (λ n. value_at n k (h ∷ alive))) (own_numbers k h alive (timely_from h alive first) same)
      ∙ ap₂ (λ w v. Some (record { heard = w; value = v })) (sym (window-cons h.seq (numbers_from k alive)))
      (value_then ∙ ap (λ g. cond (nat_le g h.seq) h.value (value_at (last_number alive k) k alive)) (sym (greatest-window (numbers_from k alive))))

-- ---- scores
row_parts : (numbers : List ℕ) (value : ℕ → ℕ) (path : Path) → row_of numbers value ≡ Some path → path ≡ record { heard = window numbers; value = value (greatest numbers) }
row_parts [] value path e = cc
row_parts (n ∷ numbers) value path e = cc

pub score_row : (up : Mac → Bool) (k : Mac) (alive : List HeardOgm) (path : Path) → path_row k alive ≡ Some path → path_score up (newest alive) k path ≡ path_throughput up alive k
unfolding path_throughput
score_row up k alive path e =
    ap (path_score up (newest alive) k) (row_parts (numbers_from k alive) (λ n. value_at n k alive) path e)
    ∙ ap (λ g. cond (up k) (cond (nat_lt (newest alive) (g + 5)) (value_at (last_number alive k) k alive) 0) 0) (greatest-window (numbers_from k alive))

zero_if : (b : Bool) (v : ℕ) → v ≡ 0 → cond b v 0 ≡ 0
zero_if true v e = e
zero_if false v e = refl

pub no_score : (up : Mac → Bool) (k : Mac) (alive : List HeardOgm) → numbers_from k alive ≡ [] → path_throughput up alive k ≡ 0
unfolding path_throughput
no_score up k alive none =
    zero_if (up k) _ (zero_if (nat_lt (newest alive) (last_number alive k + 5)) _ (unheard_value (last_number alive k) k alive (ap (λ l. has (last_number alive k) l) none)))

pub no_row : (numbers : List ℕ) (value : ℕ → ℕ) → row_of numbers value ≡ None → numbers ≡ []
no_row [] value e = refl
no_row (n ∷ numbers) value e = cc
