-- Lists of happenings that rise, and what stands in several of them together.
use Rattle.std.proofs.Common.{◌≡◌, ℕ, zero, suc, ◌<◌, ◌≤◌, ◌⊎◌, inl, inr, Bool, true, false, List, [], ◌∷◌, ◌++◌, drop, length, slice_get, Option, Some, None, append-nil, refl, sym, ap, ◌∙◌, subst, arith}
use Rattle.std.specs.Option.{IfSome, IfNone}
use Rattle.mesh_model.specs.declared.happening.Happening.{Happening}
use Rattle.mesh_model.specs.Net.Happenings.{Before, is_before}
use Rattle.mesh_model.specs.Net.Next.{AtMost, Has}
use Rattle.mesh_laws.proofs.Schedule.Members.{has_either, has_left, has_right, one_some}
use Rattle.mesh_laws.proofs.Schedule.Order.{at_most_before, at_most_moments, at_most_trans, before_at_most, before_irrefl, both_at_most, not_before, test_before}
use Rattle.mesh_post.specs.Waiting.{IsEarliest, IsNoneDue, IsPopped, IsRising, Joins, Leaves}

-- ---- what stands in a list, by place
pub has_at : {X : Type 0} (xs : List X) (i : ℕ) (x : X) → slice_get xs i ≡ Some x → Has xs x
has_at [] i x e = cc
has_at (y ∷ ys) zero x e = inl (sym (one_some y x e))
has_at (y ∷ ys) (suc i) x e = inr (has_at ys i x e)

place_of : {X : Type 0} (xs : List X) (x : X) → Has xs x → (i : ℕ) × (slice_get xs i ≡ Some x) × (i < length xs)
place_of [] x h = absurd h
place_of (y ∷ ys) x (inl e) = (0, ap Some (sym e), omega arith)
place_of (y ∷ ys) x (inr h) = let p = place_of ys x h in let l = p.2 in (suc p.0, p.1, omega (arith, l))

last_or_there : {X : Type 0} (xs : List X) (y : X) (i : ℕ) (x : X) → slice_get (xs ++ y ∷ []) i ≡ Some x → ((slice_get xs i ≡ Some x) × (i < length xs)) ⊎ ((i ≡ length xs) × (x ≡ y))
last_or_there [] y zero x e = inr (refl, sym (one_some y x e))
last_or_there [] y (suc i) x e = cc
last_or_there (z ∷ zs) y zero x e = inl (e, omega arith)
last_or_there (z ∷ zs) y (suc i) x e = elim (last_or_there zs y i x e) as (λ _. ((slice_get (z ∷ zs) (suc i) ≡ Some x) × (suc i < suc (length zs))) ⊎ ((suc i ≡ suc (length zs)) × (x ≡ y))) [
  | inl p ↦ let l = p.1 in inl (p.0, omega (arith, l))
  | inr p ↦ inr (ap suc p.0, p.1)
]

-- ---- lists that rise
pub rises_on : (xs : List Happening) (h : Happening) → IsRising xs → ((x : Happening) → Has xs x → Before x h) → IsRising (xs ++ h ∷ [])
rises_on xs h rising after i j x y l p q = by (last_or_there xs h i x p) (last_or_there xs h j y q)
  where
    by : ((slice_get xs i ≡ Some x) × (i < length xs)) ⊎ ((i ≡ length xs) × (x ≡ h)) → ((slice_get xs j ≡ Some y) × (j < length xs)) ⊎ ((j ≡ length xs) × (y ≡ h)) → Before x y
    by (inl a) (inl b) = rising i j x y l a.0 b.0
    by (inl a) (inr b) = subst (Before x) (sym b.1) (after x (has_at xs i x a.0))
    by (inr a) (inl b) = let e = a.0 in let k = b.1 in absurd (omega (arith, e, k, l))
    by (inr a) (inr b) = let e = a.0 in let k = b.0 in absurd (omega (arith, e, k, l))

pub rest_rises : (xs : List Happening) → IsRising xs → IsRising (drop 1 xs)
rest_rises [] rising = rising
rest_rises (h ∷ xs) rising = λ i j x y l p q. rising (suc i) (suc j) x y (omega (arith, l)) p q

pub none_waits : (xs : List Happening) → length xs ≤ 0 → IsEarliest xs None
none_waits [] l x p = p
none_waits (y ∷ ys) l x p = absurd (omega (arith, l))

pub first_is : (xs : List Happening) (h : Happening) → IsRising xs → slice_get xs 0 ≡ Some h → IsEarliest xs (Some h)
first_is xs h rising first = (has_at xs 0 h first, λ x has. let p = place_of xs x has in by x p.0 p.1)
  where
    by : (x : Happening) (i : ℕ) → slice_get xs i ≡ Some x → AtMost h x
    by x zero e = inl (one_some h x (sym first ∙ e))
    by x (suc i) e = inr (rising 0 (suc i) h x (omega arith) first e)

-- the first comes before the others
pub first_before : (h : Happening) (xs : List Happening) → IsRising (h ∷ xs) → (x : Happening) → Has xs x → Before h x
first_before h xs rising x has = let p = place_of xs x has in rising 0 (suc p.0) h x (omega arith) refl p.1

-- what comes behind the last comes behind all
pub behind_last : (xs : List Happening) (i : ℕ) (last h : Happening) → IsRising xs → slice_get xs i ≡ Some last → suc i ≡ length xs → Before last h → (x : Happening) → Has xs x → Before x h
behind_last xs i last h rising found end before x has =
    let p = place_of xs x has in
    at_most_before x last h (by p.0 p.1 p.2 (apart p.0 i)) before
  where
    apart : (a b : ℕ) → (a ≡ b) ⊎ ((a < b) ⊎ (b < a))
    apart zero zero = inl refl
    apart zero (suc b) = inr (inl (omega arith))
    apart (suc a) zero = inr (inr (omega arith))
    apart (suc a) (suc b) = elim (apart a b) as (λ _. (suc a ≡ suc b) ⊎ ((suc a < suc b) ⊎ (suc b < suc a))) [
      | inl e ↦ inl (ap suc e)
      | inr (inl l) ↦ inr (inl (omega (arith, l)))
      | inr (inr l) ↦ inr (inr (omega (arith, l)))
    ]

    by : (k : ℕ) → slice_get xs k ≡ Some x → k < length xs → (k ≡ i) ⊎ ((k < i) ⊎ (i < k)) → AtMost x last
    by k e low (inl same) = inl (one_some x last (sym e ∙ ap (slice_get xs) same ∙ found))
    by k e low (inr (inl l)) = inr (rising k i x last l e found)
    by k e low (inr (inr l)) = absurd (omega (arith, l, low, end))

-- ---- the first of those that wait
pub earliest_both : (xs ys : List Happening) (a b : Happening) → IsEarliest xs (Some a) → IsEarliest ys (Some b) → AtMost a b → IsEarliest (xs ++ ys) (Some a)
earliest_both xs ys a b p q l = (has_left xs ys a p.0, λ x has. by x (has_either xs ys x has))
  where
    by : (x : Happening) → Has xs x ⊎ Has ys x → AtMost a x
    by x (inl h) = p.1 x h
    by x (inr h) = at_most_trans a b x l (q.1 x h)

pub earliest_behind : (xs ys : List Happening) (a b : Happening) → IsEarliest xs (Some a) → IsEarliest ys (Some b) → Before b a → IsEarliest (xs ++ ys) (Some b)
earliest_behind xs ys a b p q l = (has_right xs ys b q.0, λ x has. by x (has_either xs ys x has))
  where
    by : (x : Happening) → Has xs x ⊎ Has ys x → AtMost b x
    by x (inl h) = at_most_trans b a x (inr l) (p.1 x h)
    by x (inr h) = q.1 x h

pub earliest_here : (xs ys : List Happening) (a : Happening) → IsEarliest xs (Some a) → IsEarliest ys None → IsEarliest (xs ++ ys) (Some a)
earliest_here xs ys a p q = (has_left xs ys a p.0, λ x has. by x (has_either xs ys x has))
  where
    by : (x : Happening) → Has xs x ⊎ Has ys x → AtMost a x
    by x (inl h) = p.1 x h
    by x (inr h) = absurd (q x h)

pub earliest_there : (xs ys : List Happening) (o : Option Happening) → IsEarliest xs None → IsEarliest ys o → IsEarliest (xs ++ ys) o
earliest_there xs ys None p q = λ x has. elim (has_either xs ys x has) as (λ _. ⊥) [ inl h ↦ p x h | inr h ↦ q x h ]
earliest_there xs ys (Some b) p q = (has_right xs ys b q.0, λ x has. by x (has_either xs ys x has))
  where
    by : (x : Happening) → Has xs x ⊎ Has ys x → AtMost b x
    by x (inl h) = absurd (p x h)
    by x (inr h) = q.1 x h

-- ---- one joins
pub joins_end : (xs : List Happening) (h : Happening) → Joins h xs (xs ++ h ∷ [])
joins_end xs h x = (λ p. to (has_either xs (h ∷ []) x p), from)
  where
    to : Has xs x ⊎ Has (h ∷ []) x → (x ≡ h) ⊎ Has xs x
    to (inl p) = inr p
    to (inr (inl e)) = inl e
    to (inr (inr p)) = absurd p

    from : (x ≡ h) ⊎ Has xs x → Has (xs ++ h ∷ []) x
    from (inl e) = has_right xs (h ∷ []) x (inl e)
    from (inr p) = has_left xs (h ∷ []) x p

pub joins_left : (old new rest : List Happening) (h : Happening) → Joins h old new → Joins h (old ++ rest) (new ++ rest)
joins_left old new rest h joins x = (λ p. to (has_either new rest x p), from)
  where
    kept : (x ≡ h) ⊎ Has old x → (x ≡ h) ⊎ Has (old ++ rest) x
    kept (inl e) = inl e
    kept (inr p) = inr (has_left old rest x p)

    to : Has new x ⊎ Has rest x → (x ≡ h) ⊎ Has (old ++ rest) x
    to (inl p) = kept ((joins x).0 p)
    to (inr p) = inr (has_right old rest x p)

    back : Has old x ⊎ Has rest x → Has (new ++ rest) x
    back (inl p) = has_left new rest x ((joins x).1 (inr p))
    back (inr p) = has_right new rest x p

    from : (x ≡ h) ⊎ Has (old ++ rest) x → Has (new ++ rest) x
    from (inl e) = has_left new rest x ((joins x).1 (inl e))
    from (inr p) = back (has_either old rest x p)

pub joins_right : (front old new : List Happening) (h : Happening) → Joins h old new → Joins h (front ++ old) (front ++ new)
joins_right front old new h joins x = (λ p. to (has_either front new x p), from)
  where
    kept : (x ≡ h) ⊎ Has old x → (x ≡ h) ⊎ Has (front ++ old) x
    kept (inl e) = inl e
    kept (inr p) = inr (has_right front old x p)

    to : Has front x ⊎ Has new x → (x ≡ h) ⊎ Has (front ++ old) x
    to (inl p) = inr (has_left front old x p)
    to (inr p) = kept ((joins x).0 p)

    back : Has front x ⊎ Has old x → Has (front ++ new) x
    back (inl p) = has_left front new x p
    back (inr p) = has_right front new x ((joins x).1 (inr p))

    from : (x ≡ h) ⊎ Has (front ++ old) x → Has (front ++ new) x
    from (inl e) = has_right front new x ((joins x).1 (inl e))
    from (inr p) = back (has_either front old x p)

-- ---- the first leaves
-- a happening leaves what it doesn't stand in
pub none_leaves : (h : Happening) (xs : List Happening) → IsEarliest xs None → Leaves h xs xs
none_leaves h xs none = record { kept = λ x p. inr p; had = λ x p. p; above = λ x p. absurd (none x p) }

pub early_leaves : (h first : Happening) (xs : List Happening) → IsEarliest xs (Some first) → is_before h first ≡ true → Leaves h xs xs
early_leaves h first xs is early = record { kept = λ x p. inr p; had = λ x p. p; above = λ x p. before_at_most h first x (test_before h first early) (is.1 x p) }

-- the first leaves a list that rises
pub front_leaves : (h first : Happening) (xs : List Happening) → IsRising xs → IsEarliest xs (Some first) → is_before h first ≡ false → ((x : Happening) → Has xs x → AtMost h x) → Leaves h xs (drop 1 xs)
front_leaves h first [] rising is late low = absurd is.0
front_leaves h first (y ∷ ys) rising is late low =
    let first_at : first ≡ h = both_at_most first h (not_before h first late) (low first is.0) in
    let y_is : y ≡ h = both_at_most y h (subst (AtMost y) first_at (by is.0)) (low y (inl refl)) in
    record {
      kept = λ x p. elim p as (λ _. (x ≡ h) ⊎ Has ys x) [ inl e ↦ inl (e ∙ y_is) | inr q ↦ inr q ];
      had = λ x p. inr p;
      above = λ x p. subst (λ z. Before z x) y_is (behind x p);
    }
  where
    behind : (x : Happening) → Has ys x → Before y x
    behind x p = let q = place_of ys x p in rising 0 (suc q.0) y x (omega arith) refl q.1

    by : (first ≡ y) ⊎ Has ys first → AtMost y first
    by (inl e) = inl (sym e)
    by (inr p) = inr (behind first p)

pub leaves_both : (h : Happening) (a b c d : List Happening) → Leaves h a b → Leaves h c d → Leaves h (a ++ c) (b ++ d)
leaves_both h a b c d p q = record {
  kept = λ x has. elim (has_either a c x has) as (λ _. (x ≡ h) ⊎ Has (b ++ d) x) [
    | inl m ↦ elim (p.kept x m) as (λ _. (x ≡ h) ⊎ Has (b ++ d) x) [ inl e ↦ inl e | inr n ↦ inr (has_left b d x n) ]
    | inr m ↦ elim (q.kept x m) as (λ _. (x ≡ h) ⊎ Has (b ++ d) x) [ inl e ↦ inl e | inr n ↦ inr (has_right b d x n) ]
  ];
  had = λ x has. elim (has_either b d x has) as (λ _. Has (a ++ c) x) [ inl m ↦ has_left a c x (p.had x m) | inr m ↦ has_right a c x (q.had x m) ];
  above = λ x has. elim (has_either b d x has) as (λ _. Before h x) [ inl m ↦ p.above x m | inr m ↦ q.above x m ];
}

-- what is said of all in two lists is said of those in each
pub low_here : (xs ys : List Happening) (h : Happening) → ((x : Happening) → Has (xs ++ ys) x → AtMost h x) → (x : Happening) → Has xs x → AtMost h x
low_here xs ys h low x p = low x (has_left xs ys x p)

pub low_there : (xs ys : List Happening) (h : Happening) → ((x : Happening) → Has (xs ++ ys) x → AtMost h x) → (x : Happening) → Has ys x → AtMost h x
low_there xs ys h low x p = low x (has_right xs ys x p)

-- the first of two lists is that of them and of a third where nothing waits
pub first_alone : (a b c : List Happening) (found : Option Happening) → c ≡ [] → IsEarliest (a ++ b) found → IsEarliest (a ++ (b ++ c)) found
first_alone a b c found none is = subst (λ (q : List Happening). IsEarliest (a ++ (b ++ q)) found) (sym none) (subst (λ (q : List Happening). IsEarliest (a ++ q) found) (sym (append-nil b)) is)

-- ---- the first of two lists is taken away, if it is until a moment
not_before_itself : (h : Happening) → is_before h h ≡ false
not_before_itself h = by (is_before h h) refl
  where
    by : (b : Bool) → is_before h h ≡ b → is_before h h ≡ false
    by true e = absurd (before_irrefl h (test_before h h e))
    by false e = e

-- it leaves a list that rises
pub first_leaves : (h : Happening) (xs : List Happening) → IsRising xs → IsEarliest xs (Some h) → Leaves h xs (drop 1 xs)
first_leaves h xs rising is = front_leaves h h xs rising is (not_before_itself h) is.1

-- those of the other list wait on, since all are after it
pub popped_here : (h : Happening) (xs less ys : List Happening) (t : ℕ) → ((x : Happening) → Has ys x → Before h x) → IsPopped xs less t h → IsPopped (xs ++ ys) (less ++ ys) t h
popped_here h xs less ys t after popped = record {
  waited = has_left xs ys h popped.waited;
  leaves =
      leaves_both h xs less ys ys popped.leaves (record { kept = λ x p. inr p; had = λ x p. p; above = after });
  within = popped.within;
}

pub popped_there : (h : Happening) (xs ys less : List Happening) (t : ℕ) → ((x : Happening) → Has xs x → Before h x) → IsPopped ys less t h → IsPopped (xs ++ ys) (xs ++ less) t h
popped_there h xs ys less t after popped = record {
  waited = has_right xs ys h popped.waited;
  leaves =
      leaves_both h xs xs ys less (record { kept = λ x p. inr p; had = λ x p. p; above = after }) popped.leaves;
  within = popped.within;
}

-- none is, where the first isn't
pub none_due : (h : Happening) (xs ys : List Happening) (t : ℕ) → t < h.moment → ((x : Happening) → Has xs x → AtMost h x) → ((x : Happening) → Has ys x → AtMost h x) → IsNoneDue (xs ++ ys) t
none_due h xs ys t late here there x has = elim (has_either xs ys x has) as (λ _. t < x.moment) [
  | inl p ↦ let m = at_most_moments h x (here x p) in omega (arith, late, m)
  | inr p ↦ let m = at_most_moments h x (there x p) in omega (arith, late, m)
]

-- it comes before those of a list whose first is after it
pub all_after : (h first : Happening) (xs : List Happening) → is_before h first ≡ true → IsEarliest xs (Some first) → (x : Happening) → Has xs x → Before h x
all_after h first xs early is x has = before_at_most h first x (test_before h first early) (is.1 x has)

pub some_here : (o : Option Happening) (first : Happening) (xs less ys : List Happening) (t : ℕ) → ((x : Happening) → Has ys x → Before first x) → IfSome o (λ h. (h ≡ first) × IsPopped xs less t h) → IfSome o (IsPopped (xs ++ ys) (less ++ ys) t)
some_here None first xs less ys t after popped = tt
some_here (Some h) first xs less ys t after popped = popped_here h xs less ys t (λ x has. subst (λ z. Before z x) (sym popped.0) (after x has)) popped.1

pub some_there : (o : Option Happening) (first : Happening) (xs ys less : List Happening) (t : ℕ) → ((x : Happening) → Has xs x → Before first x) → IfSome o (λ h. (h ≡ first) × IsPopped ys less t h) → IfSome o (IsPopped (xs ++ ys) (xs ++ less) t)
some_there None first xs ys less t after popped = tt
some_there (Some h) first xs ys less t after popped = popped_there h xs ys less t (λ x has. subst (λ z. Before z x) (sym popped.0) (after x has)) popped.1

pub none_here : (o : Option Happening) (first : Happening) (xs new ys : List Happening) (t : ℕ) → IsEarliest xs (Some first) → ((x : Happening) → Has ys x → AtMost first x) → IfNone o ((new ≡ xs) × (t < first.moment)) → IfNone o ((new ≡ xs) × (ys ≡ ys) × IsNoneDue (xs ++ ys) t)
none_here None first xs new ys t is low late = (late.0, refl, none_due first xs ys t late.1 is.1 low)
none_here (Some h) first xs new ys t is low late = tt

pub none_there : (o : Option Happening) (first : Happening) (xs ys new : List Happening) (t : ℕ) → IsEarliest ys (Some first) → ((x : Happening) → Has xs x → AtMost first x) → IfNone o ((new ≡ ys) × (t < first.moment)) → IfNone o ((xs ≡ xs) × (new ≡ ys) × IsNoneDue (xs ++ ys) t)
none_there None first xs ys new t is low late = (refl, late.0, none_due first xs ys t late.1 low is.1)
none_there (Some h) first xs ys new t is low late = tt

-- none waits at all
pub none_at_all : (xs ys : List Happening) (t : ℕ) → IsEarliest xs None → IsEarliest ys None → IsNoneDue (xs ++ ys) t
none_at_all xs ys t here there x has = elim (has_either xs ys x has) as (λ _. t < x.moment) [ inl p ↦ absurd (here x p) | inr p ↦ absurd (there x p) ]

-- the same waits in both lists, as their first
pub popped_both : (a : Happening) (xs less ys fewer : List Happening) (t : ℕ) → IsEarliest xs (Some a) → a.moment ≤ t → Leaves a xs less → Leaves a ys fewer → IsPopped (xs ++ ys) (less ++ fewer) t a
popped_both a xs less ys fewer t is within here there = record {
  waited = has_left xs ys a is.0;
  leaves = leaves_both a xs less ys fewer here there;
  within = within;
}
