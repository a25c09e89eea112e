-- What stands in a list, and the earliest of a list of happenings.
use Rattle.std.proofs.Common.{◌≡◌, ◌⊎◌, inl, inr, Bool, true, false, cond, List, [], ◌∷◌, ◌++◌, map, filter, ℕ, zero, suc, slice_get, Option, Some, None, refl, sym, ap, ◌∙◌, subst}
use Rattle.mesh_model.specs.declared.happening.Happening.{Happening}
use Rattle.mesh_model.specs.Net.Happenings.{is_before, Before, earliest, earlier}
use Rattle.mesh_model.specs.Net.Next.{Has, AtMost}
use Rattle.mesh_laws.proofs.Schedule.Order.{test_before, not_before, at_most_trans}

-- ---- members
pub has_left : {X : Type 0} (xs ys : List X) (x : X) → Has xs x → Has (xs ++ ys) x
has_left [] ys x h = absurd h
has_left (z ∷ zs) ys x (inl e) = inl e
has_left (z ∷ zs) ys x (inr h) = inr (has_left zs ys x h)

pub has_right : {X : Type 0} (xs ys : List X) (x : X) → Has ys x → Has (xs ++ ys) x
has_right [] ys x h = h
has_right (z ∷ zs) ys x h = inr (has_right zs ys x h)

pub has_either : {X : Type 0} (xs ys : List X) (x : X) → Has (xs ++ ys) x → Has xs x ⊎ Has ys x
has_either [] ys x h = inr h
has_either (z ∷ zs) ys x (inl e) = inl (inl e)
has_either (z ∷ zs) ys x (inr h) = again (has_either zs ys x h)
  where
    again : Has zs x ⊎ Has ys x → Has (z ∷ zs) x ⊎ Has ys x
    again (inl p) = inl (inr p)
    again (inr p) = inr p

pub has_map : {X Y : Type 0} (f : X → Y) (xs : List X) (x : X) → Has xs x → Has (map f xs) (f x)
has_map f [] x h = absurd h
has_map f (z ∷ zs) x (inl e) = inl (ap f e)
has_map f (z ∷ zs) x (inr h) = inr (has_map f zs x h)

pub map_has : {X Y : Type 0} (f : X → Y) (xs : List X) (y : Y) → Has (map f xs) y → (x : X) × Has xs x × (y ≡ f x)
map_has f [] y h = absurd h
map_has f (z ∷ zs) y (inl e) = (z, inl refl, e)
map_has f (z ∷ zs) y (inr h) = let p = map_has f zs y h in (p.0, inr p.1, p.2)

pub has_filter : {X : Type 0} (test : X → Bool) (xs : List X) (x : X) → test x ≡ true → Has xs x → Has (filter test xs) x
has_filter test [] x t h = absurd h
has_filter test (z ∷ zs) x t (inl e) = rw (← e, t) (inl refl)
has_filter test (z ∷ zs) x t (inr h) =
    elim (test z) as (λ b. Has (cond b (z ∷ filter test zs) (filter test zs)) x) [
      | true ↦ inr (has_filter test zs x t h)
      | false ↦ has_filter test zs x t h
    ]

filter_step : {X : Type 0} (test : X → Bool) (z : X) (zs : List X) (x : X) (b : Bool) → test z ≡ b → (Has (filter test zs) x → (test x ≡ true) × Has zs x) → Has (cond b (z ∷ filter test zs) (filter test zs)) x → (test x ≡ true) × Has (z ∷ zs) x
filter_step test z zs x true t more (inl e) = (ap test e ∙ t, inl e)
filter_step test z zs x true t more (inr h) = ((more h).0, inr (more h).1)
filter_step test z zs x false t more h = ((more h).0, inr (more h).1)

pub filter_has : {X : Type 0} (test : X → Bool) (xs : List X) (x : X) → Has (filter test xs) x → (test x ≡ true) × Has xs x
filter_has test [] x h = absurd h
filter_has test (z ∷ zs) x h = filter_step test z zs x (test z) refl (filter_has test zs x) h

-- ---- the earliest
abbrev pub IsEarliest : List Happening → Happening → Type 0
IsEarliest hs h = Has hs h × ((x : Happening) → Has hs x → AtMost h x)

earliest_earlier : (h k : Happening) (rest : List Happening) (b : Bool) → is_before k h ≡ b → IsEarliest rest k → IsEarliest (h ∷ rest) (cond b k h)
earliest_earlier h k rest true p l = (inr l.0, all)
  where
    all : (x : Happening) → Has (h ∷ rest) x → AtMost k x
    all x (inl e) = inr (subst (Before k) (sym e) (test_before k h p))
    all x (inr q) = l.1 x q
earliest_earlier h k rest false p l = (inl refl, all)
  where
    all : (x : Happening) → Has (h ∷ rest) x → AtMost h x
    all x (inl e) = inl (sym e)
    all x (inr q) = at_most_trans h k x (not_before k h p) (l.1 x q)

earliest_of : (h : Happening) (rest : List Happening) (o : Option Happening) → earliest rest ≡ o → ((k : Happening) → o ≡ Some k → IsEarliest rest k) → (o ≡ None → rest ≡ []) → IsEarliest (h ∷ rest) (earlier h o)
earliest_of h rest None e some none = (inl refl, all)
  where
    all : (x : Happening) → Has (h ∷ rest) x → AtMost h x
    all x (inl q) = inl (sym q)
    all x (inr q) = absurd (subst (λ xs. Has xs x) (none refl) q)
earliest_of h rest (Some k) e some none = earliest_earlier h k rest (is_before k h) refl (some k refl)

pub some_one : (h k : Happening) → Some h ≡ Some k → h ≡ k
some_one h k e = cc

pub earliest_none : (hs : List Happening) → earliest hs ≡ None → hs ≡ []
earliest_none [] e = refl
earliest_none (h ∷ rest) e = cc

pub earliest_is : (hs : List Happening) (h : Happening) → earliest hs ≡ Some h → IsEarliest hs h
earliest_is [] h e = cc
earliest_is (k ∷ rest) h e = subst (IsEarliest (k ∷ rest)) (some_one (earlier k (earliest rest)) h e) (earliest_of k rest (earliest rest) refl (earliest_is rest) (earliest_none rest))

pub one_some : {X : Type 0} (x y : X) → Some x ≡ Some y → x ≡ y
one_some x y e = cc

got : {X : Type 0} (xs : List X) (i : ℕ) (x : X) → slice_get xs i ≡ Some x → Has xs x
got [] i x e = cc
got (y ∷ ys) zero x e = inl (sym (one_some y x e))
got (y ∷ ys) (suc i) x e = inr (got ys i x e)

pub get_either : {X : Type 0} (before more : List X) (i : ℕ) (x : X) → slice_get (before ++ more) i ≡ Some x → (slice_get before i ≡ Some x) ⊎ Has more x
get_either [] more i x e = inr (got more i x e)
get_either (f ∷ before) more zero x e = inl e
get_either (f ∷ before) more (suc i) x e = get_either before more i x e

-- an item of a list with one more at its end
pub get_last : {X : Type 0} (xs : List X) (y : X) (i : ℕ) (x : X) → slice_get (xs ++ y ∷ []) i ≡ Some x → (slice_get xs i ≡ Some x) ⊎ (x ≡ y)
get_last [] y zero x e = inr (sym (one_some y x e))
get_last [] y (suc i) x e = cc
get_last (z ∷ xs) y zero x e = inl e
get_last (z ∷ xs) y (suc i) x e = get_last xs y i x e
