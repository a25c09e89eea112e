-- Tables in key order: what a filter leaves of them, and when two are one.
use Rattle.std.proofs.Common.{◌≡◌, Bool, true, false, cond, ◌&&◌, ◌||◌, ◌==◌, List, [], ◌∷◌, map, filter, Less, Equal, Greater, refl, sym, ap, ap₂, ◌∙◌, subst, is_eq}
use Rattle.std.specs.List.{AllByRecursion}
use Rattle.std.specs.List.Sorted.{IsStrictlySortedBy}
use Rattle.std.specs.Ordering.{ordering_reverse}
use Rattle.std.proofs.lemmas.Bool.{eq-eqb, eqb-true, and_parts, and_from, false≢true}
use Rattle.std.proofs.lemmas.Cmp.{tied_itself}
use Rattle.mesh_base.specs.KeyOrder.{key_order}
use Rattle.mesh_base.specs.declared.client.Entry.{Entry}
use Rattle.mesh_base.specs.declared.client.Key.{Key}
use Rattle.mesh_model.specs.Tables.Changes.{IsInKeyOrder, same_entry, has_entry}
use Rattle.mesh_laws.specs.TableLaws.{IsDeterminedByEntries}
use Rattle.mesh_laws.proofs.KeyLists.{tied}
use Rattle.mesh_laws.proofs.PresentLemmas.{key_exact, key_total}

-- a key is below each key of a table
abbrev pub IsBelow : Key → List Entry → Type 0
IsBelow k t = AllByRecursion (λ y. key_order k y ≡ Less) (map (λ e. e.key) t)

pub below_filter : (p : Entry → Bool) (k : Key) (t : List Entry) → IsBelow k t → IsBelow k (filter p t)
below_filter p k [] b = tt
below_filter p k (e ∷ t) b = elim (p e) as (λ c. IsBelow k (cond c (e ∷ filter p t) (filter p t))) [
  | true ↦ (b.0, below_filter p k t b.1)
  | false ↦ below_filter p k t b.1
]

-- what a filter leaves stands in key order
pub ordered_filter : (p : Entry → Bool) (t : List Entry) → IsInKeyOrder t → IsInKeyOrder (filter p t)
unfolding IsStrictlySortedBy
ordered_filter p [] s = tt
ordered_filter p (e ∷ t) s = elim (p e) as (λ c. IsInKeyOrder (cond c (e ∷ filter p t) (filter p t))) [
  | true ↦ (below_filter p e.key t s.0, ordered_filter p t s.1)
  | false ↦ ordered_filter p t s.1
]

-- entries that are one are equal
pub equal_entries : (e f : Entry) → same_entry e f ≡ true → e ≡ f
equal_entries e f s =
    let parts = and_parts (is_eq (key_order e.key f.key)) (e.flags == f.flags) s in
    let keys : e.key ≡ f.key = tied key_order key_exact e.key f.key _ refl parts.0 in
    λ i. record { key = keys i; flags = eqb-true e.flags f.flags parts.1 i }

pub entry_itself : (e : Entry) → same_entry e e ≡ true
entry_itself e = and_from _ _ (ap is_eq (tied_itself key_total e.key)) (eq-eqb e.flags e.flags refl)

no_entry : (b : Bool) → (b && false) ≡ false
no_entry true = refl
no_entry false = refl

-- what a filter leaves has the entries that pass
pub has_filtered : (p : Entry → Bool) (t : List Entry) (e : Entry) → has_entry (filter p t) e ≡ (has_entry t e && p e)
has_filtered p [] e = refl
has_filtered p (f ∷ t) e = go (same_entry e f) refl (p f) refl (has_filtered p t e)
  where
    go : (s : Bool) → same_entry e f ≡ s → (c : Bool) → p f ≡ c → has_entry (filter p t) e ≡ (has_entry t e && p e) → has_entry (cond c (f ∷ filter p t) (filter p t)) e ≡ ((s || has_entry t e) && p e)
    go true s true c ih = ap (λ x. x || has_entry (filter p t) e) s ∙ sym (ap p (equal_entries e f s) ∙ c)
    go true s false c ih =
        let none : p e ≡ false = ap p (equal_entries e f s) ∙ c in
        ih ∙ ap (λ x. has_entry t e && x) none ∙ no_entry (has_entry t e) ∙ sym none
    go false s true c ih = ap (λ x. x || has_entry (filter p t) e) s ∙ ih
    go false s false c ih = ih

-- an entry of a table has a key that is above those below the table
pub below_entry : (k : Key) (t : List Entry) (e : Entry) → IsBelow k t → has_entry t e ≡ true → key_order k e.key ≡ Less
below_entry k [] e b h = absurd (false≢true h)
below_entry k (f ∷ t) e b h = go (same_entry e f) refl h (below_entry k t e b.1)
  where
    go : (s : Bool) → same_entry e f ≡ s → (s || has_entry t e) ≡ true → (has_entry t e ≡ true → key_order k e.key ≡ Less) → key_order k e.key ≡ Less
    go true s h ih = ap (λ x. key_order k x.key) (equal_entries e f s) ∙ b.0
    go false s h ih = ih h

-- a table has no entry of a key below it
pub none_below : (t : List Entry) (e : Entry) → IsBelow e.key t → has_entry t e ≡ false
none_below t e b = go (has_entry t e) refl
  where
    go : (x : Bool) → has_entry t e ≡ x → x ≡ false
    go true h =
        let less : key_order e.key e.key ≡ Less = below_entry e.key t e b h in
        let equal : key_order e.key e.key ≡ Equal = tied_itself key_total e.key in
        cc
    go false h = refl

-- the first entries of two tables with the same entries
first_entries : (e f : Entry) (t u : List Entry) → IsBelow e.key t → IsBelow f.key u → has_entry (f ∷ u) e ≡ true → has_entry (e ∷ t) f ≡ true → e ≡ f
first_entries e f t u below above there here = go (same_entry e f) refl there (same_entry f e) refl here
  where
    go : (s : Bool) → same_entry e f ≡ s → (s || has_entry u e) ≡ true → (r : Bool) → same_entry f e ≡ r → (r || has_entry t f) ≡ true → e ≡ f
    go true s h r q k = equal_entries e f s
    go false s h true q k = sym (equal_entries f e q)
    go false s h false q k =
        let less : key_order f.key e.key ≡ Less = below_entry f.key u e above h in
        let more : key_order f.key e.key ≡ Greater = key_total.antisymm f.key e.key ∙ ap ordering_reverse (below_entry e.key t f below k) in
        cc

-- the rest of two tables with one first entry and the same entries
same_rests : (e : Entry) (t u : List Entry) → IsBelow e.key t → IsBelow e.key u → ((g : Entry) → has_entry (e ∷ t) g ≡ has_entry (e ∷ u) g) → (g : Entry) → has_entry t g ≡ has_entry u g
same_rests e t u below above same g = go (same_entry g e) refl (same g)
  where
    go : (s : Bool) → same_entry g e ≡ s → (s || has_entry t g) ≡ (s || has_entry u g) → has_entry t g ≡ has_entry u g
    go true s h =
        let is : e ≡ g = sym (equal_entries g e s) in
        none_below t g (subst (λ x. IsBelow x.key t) is below) ∙ sym (none_below u g (subst (λ x. IsBelow x.key u) is above))
    go false s h = h

pub determined : IsDeterminedByEntries
unfolding IsStrictlySortedBy
determined [] [] s r same = refl
determined [] (f ∷ u) s r same = absurd (false≢true (same f ∙ ap (λ x. x || has_entry u f) (entry_itself f)))
determined (e ∷ t) [] s r same = absurd (false≢true (sym (same e) ∙ ap (λ x. x || has_entry t e) (entry_itself e)))
determined (e ∷ t) (f ∷ u) s r same =
    let first : e ≡ f = first_entries e f t u s.0 r.0
    (sym (same e) ∙ ap (λ x. x || has_entry t e) (entry_itself e))
    (same f ∙ ap (λ x. x || has_entry u f) (entry_itself f)) in
    let rest : t ≡ u = determined t u s.1 r.1 (same_rests e t u s.0
    (subst (λ x. IsBelow x.key u) (sym first) r.0)
    (subst (λ x. (g : Entry) → has_entry (e ∷ t) g ≡ has_entry (x ∷ u) g) (sym first) same)) in
    ap₂ (λ x y. x ∷ y) first rest
