-- From which neighbours an originator was heard: in a life, from no other than in all hearings.
use Rattle.std.proofs.Common.{◌≡◌, ⊎_elim, ℕ, ◌-◌, nat_lt, Bool, true, false, cond, ◌&&◌, ◌||◌, List, [], ◌∷◌, refl, sym, ap, ap₂, ◌∙◌}
use Rattle.std.proofs.lemmas.Bool.{cases_Bool, or_cases, false≢true}
use Rattle.mesh_base.specs.declared.address.Mac.{Mac}
use Rattle.mesh_model.specs.Routes.Addresses.{same_mac}
use Rattle.mesh_model.specs.Routes.Life.{HeardOgm, life_span, of, since, life, numbers_from}
use Rattle.mesh_laws.proofs.MacLemmas.{same_equiv}
use Rattle.mesh_algo.specs.LifeRows.{latest}
use Rattle.mesh_algo.proofs.LifeLemmas.{of_other, of_same, other_numbers}

-- ---- tests
pub or_left : (a b : Bool) → a ≡ true → (a || b) ≡ true
or_left a b e = ap (λ x. x || b) e

pub or_right : (a b : Bool) → b ≡ true → (a || b) ≡ true
or_right true b e = refl
or_right false b e = e

pub both : (a b : Bool) → a ≡ true → b ≡ true → (a && b) ≡ true
both a b e f = ap₂ (λ x y. x && y) e f

-- ---- neighbours
abbrev pub any_from : Mac → List HeardOgm → Bool
any_from k [] = false
any_from k (h ∷ older) = same_mac k h.from || any_from k older

abbrev pub came_from : Mac → Mac → List HeardOgm → Bool
came_from orig k [] = false
came_from orig k (h ∷ older) = (same_mac orig h.orig && same_mac k h.from) || came_from orig k older

abbrev pub has_any : List ℕ → Bool
has_any [] = false
has_any (n ∷ numbers) = true

pub numbers_any : (k : Mac) (l : List HeardOgm) → has_any (numbers_from k l) ≡ true → any_from k l ≡ true
numbers_any k [] e = absurd (false≢true e)
numbers_any k (h ∷ older) e =
    ⊎_elim (λ t. or_left (same_mac k h.from) (any_from k older) (same_equiv.symm k h.from ∙ t))
    (λ f. or_right (same_mac k h.from) (any_from k older) (numbers_any k older (ap (λ l. has_any l) (sym (other_numbers k h older f)) ∙ e)))
    (cases_Bool (same_mac h.from k))

none_or_any : (k : Mac) (restart : Bool) (l : List HeardOgm) → any_from k (cond restart [] l) ≡ true → any_from k l ≡ true
none_or_any k true l e = absurd (false≢true e)
none_or_any k false l e = e

life_any : (k : Mac) (moment : ℕ) (l : List HeardOgm) → any_from k (life moment l) ≡ true → any_from k l ≡ true
life_any k moment [] e = e
life_any k moment (g ∷ older) e =
    elim (nat_lt (moment - g.moment) life_span) as (λ b. any_from k (cond b (g ∷ since g older) []) ≡ true → (same_mac k g.from || any_from k older) ≡ true) [
      | true ↦ λ x. ⊎_elim (λ t. or_left (same_mac k g.from) (any_from k older) t)
          (λ r. or_right (same_mac k g.from) (any_from k older) (life_any k g.moment older (none_or_any k g.restart (life g.moment older) r))) (or_cases (same_mac k g.from) (any_from k (since g older)) x)
      | false ↦ λ x. absurd (false≢true x)
    ] e

since_any : (k : Mac) (h : HeardOgm) (l : List HeardOgm) → any_from k (since h l) ≡ true → any_from k l ≡ true
since_any k h l e = life_any k h.moment l (none_or_any k h.restart (life h.moment l) e)

pub latest_any : (k : Mac) (l : List HeardOgm) → any_from k (latest l) ≡ true → any_from k l ≡ true
latest_any k [] e = e
latest_any k (h ∷ older) e =
    ⊎_elim (λ t. or_left (same_mac k h.from) (any_from k older) t) (λ r. or_right (same_mac k h.from) (any_from k older) (since_any k h older r)) (or_cases (same_mac k h.from) (any_from k (since h older)) e)

pub of_any : (orig k : Mac) (l : List HeardOgm) → any_from k (of orig l) ≡ true → came_from orig k l ≡ true
of_any orig k [] e = e
of_any orig k (h ∷ older) e =
    ⊎_elim (λ t. ⊎_elim (λ s. or_left (same_mac orig h.orig && same_mac k h.from) (came_from orig k older) (both _ _ (same_equiv.symm orig h.orig ∙ t) s))
    (λ r. or_right (same_mac orig h.orig && same_mac k h.from) (came_from orig k older) (of_any orig k older r))
    (or_cases (same_mac k h.from) (any_from k (of orig older)) (ap (λ l. any_from k l) (sym (of_same orig h older t)) ∙ e)))
    (λ f. or_right (same_mac orig h.orig && same_mac k h.from) (came_from orig k older) (of_any orig k older (ap (λ l. any_from k l) (sym (of_other orig h older f)) ∙ e)))
    (cases_Bool (same_mac h.orig orig))
