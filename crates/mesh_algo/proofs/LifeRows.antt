-- What the row of a life says, and windows of numbers.
use Rattle.std.proofs.Common.{◌≡◌, ℕ, zero, suc, ◌-◌, nat_eq, nat_lt, nat_le, Bool, true, false, cond, not, ◌||◌, List, [], ◌∷◌, is_some, Option, Some, None, arith, refl, sym, ap, ◌∙◌}
use Rattle.std.specs.List.{list_any}
use Rattle.std.specs.Map.{keys_of, lookup}
use Rattle.std.proofs.lemmas.Bool.{eqb-true, true≢false}
use Rattle.mesh_base.specs.declared.address.Mac.{Mac}
use Rattle.mesh_model.specs.Routes.Addresses.{same_mac}
use Rattle.mesh_model.specs.Routes.Life.{HeardOgm, began_wild, life_span, since, life, is_live, newest, forwarded}
use Rattle.mesh_model.specs.Routes.Numbers.{has, greatest, among, window}
use Rattle.mesh_laws.proofs.WindowLemmas.{among-agree, has-le}
use Rattle.mesh_algo.specs.declared.life.Life.{Life}
use Rattle.mesh_algo.specs.LifeRows.{latest, life_row, newest_by, forwarded_by, restarted_by}
use Rattle.mesh_algo.proofs.LifeLemmas.{and_false}

-- ---- windows
pub none_among : (top count : ℕ) → among top count (λ n. has n []) ≡ []
unfolding among
none_among top zero = refl
none_among top (suc k) = ap (λ b. cond b ((top - k) ∷ among top k (λ n. has n [])) (among top k (λ n. has n []))) (and_false (nat_le k top)) ∙ none_among top k

pub window_nil : window [] ≡ []
unfolding window
window_nil = none_among 0 64

seen_again : (m s : ℕ) (numbers : List ℕ) → has s numbers ≡ true → (nat_eq m s || has m numbers) ≡ has m numbers
seen_again m s numbers h =
    elim (nat_eq m s) as (λ b. nat_eq m s ≡ b → (b || has m numbers) ≡ has m numbers) [
      | true ↦ λ e. sym (ap (λ x. has x numbers) (eqb-true m s e) ∙ h)
      | false ↦ λ e. refl
    ] refl

-- a number that was seen changes neither the greatest nor the window
pub greatest_again : (s : ℕ) (numbers : List ℕ) → has s numbers ≡ true → greatest (s ∷ numbers) ≡ greatest numbers
greatest_again s numbers h = let le = has-le s numbers h in omega (arith, le)

pub window_again : (s : ℕ) (numbers : List ℕ) → has s numbers ≡ true → window (s ∷ numbers) ≡ window numbers
unfolding window
window_again s numbers h =
    ap (λ g. among g 64 (λ m. has m (s ∷ numbers))) (greatest_again s numbers h)
    ∙ among-agree (greatest numbers) 64 (λ m. has m (s ∷ numbers)) (λ m. has m numbers) (λ m low lt. seen_again m s numbers h)

-- ---- the row of a life
pub newest_by_row : (alive : List HeardOgm) (row : Option Life) → row ≡ life_row alive → newest_by row ≡ newest alive
newest_by_row [] row e = ap newest_by e
newest_by_row (h ∷ alive) row e = ap newest_by e

pub forwarded_by_row : (alive : List HeardOgm) (row : Option Life) → row ≡ life_row alive → forwarded_by row ≡ window (forwarded alive)
forwarded_by_row [] row e = ap forwarded_by e ∙ sym window_nil
forwarded_by_row (h ∷ alive) row e = ap forwarded_by e

pub restarted_by_row : (alive : List HeardOgm) (row : Option Life) → row ≡ life_row alive → restarted_by row ≡ began_wild alive
restarted_by_row [] row e = ap restarted_by e
restarted_by_row (h ∷ alive) row e = ap restarted_by e

pub newest_of_row : (alive : List HeardOgm) (row : Life) → life_row alive ≡ Some row → row.newest ≡ newest alive
newest_of_row alive row e = newest_by_row alive (Some row) (sym e)

pub no_life : (alive : List HeardOgm) → life_row alive ≡ None → alive ≡ []
no_life [] e = refl
no_life (h ∷ older) e = cc

-- there is one where there is a life
pub row_lives : (alive : List HeardOgm) → is_some (life_row alive) ≡ is_live alive
row_lives [] = refl
row_lives (h ∷ older) = refl

pub some_row : (hearings : List HeardOgm) → is_some (life_row (latest hearings)) ≡ is_live hearings
some_row [] = refl
some_row (h ∷ older) = refl

-- a life that an originator has is its last
pub life_is_latest : (moment : ℕ) (hearings : List HeardOgm) (row : Life) → life_row (life moment hearings) ≡ Some row → life moment hearings ≡ latest hearings
life_is_latest moment [] row e = refl
life_is_latest moment (h ∷ older) row e =
    elim (nat_lt (moment - h.moment) life_span) as (λ b. life_row (cond b (h ∷ since h older) []) ≡ Some row → cond b (h ∷ since h older) [] ≡ h ∷ since h older) [
      | true ↦ λ r. refl
      | false ↦ λ r. cc
    ] e

-- a life that a hearing goes on with is the originator's last
pub before_is_latest : (h : HeardOgm) (hearings : List HeardOgm) (row : Life) → life_row (since h hearings) ≡ Some row → since h hearings ≡ latest hearings
before_is_latest h hearings row e =
    elim h.restart as (λ b. life_row (cond b [] (life h.moment hearings)) ≡ Some row → cond b [] (life h.moment hearings) ≡ latest hearings) [
      | true ↦ λ r. cc
      | false ↦ λ r. life_is_latest h.moment hearings row r
    ] e

-- a hearing that goes on with a life is no restart
pub stays : (h : HeardOgm) (hearings : List HeardOgm) (row : Life) → life_row (since h hearings) ≡ Some row → h.restart ≡ false
stays h hearings row e =
    elim h.restart as (λ b. life_row (cond b [] (life h.moment hearings)) ≡ Some row → b ≡ false) [
      | true ↦ λ r. cc
      | false ↦ λ r. refl
    ] e

-- the test that there is none
pub none_is : (row : Option Life) (r : Bool) → is_some row ≡ not r → r ≡ true → row ≡ None
none_is None r e t = refl
none_is (Some life) r e t = absurd (true≢false (e ∙ ap not t))

-- ---- keys
pub any_key : {X : Type 0} (q : Mac) (rows : List (Mac × X)) → list_any (same_mac q) (keys_of rows) ≡ is_some (lookup (same_mac q) rows)
any_key q [] = refl
any_key q (e ∷ rows) =
    elim (same_mac q e.0) as (λ b. (b || list_any (same_mac q) (keys_of rows)) ≡ is_some (cond b (Some e.1) (lookup (same_mac q) rows))) [
      | true ↦ refl
      | false ↦ any_key q rows
    ]
