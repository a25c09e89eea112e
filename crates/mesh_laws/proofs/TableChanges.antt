-- How a changeset leads from one table in key order to another.
use Rattle.std.proofs.Common.{◌≡◌, Bool, true, false, cond, not, ◌==◌, List, [], ◌∷◌, ◌++◌, map, filter, option_map, ok_or, Option, Some, None, Ok, Less, Greater, refl, sym, ap, ap₂, ◌∙◌, subst}
use Rattle.std.specs.List.{AllByRecursion}
use Rattle.std.specs.List.Sorted.{IsStrictlySortedBy}
use Rattle.std.specs.Ordering.{ordering_reverse, match_ordering}
use Rattle.std.proofs.Math.Bool.{and_comm}
use Rattle.std.proofs.lemmas.Bool.{eq-eqb}
use Rattle.std.proofs.lemmas.Cmp.{tied_itself}
use Rattle.mesh_base.specs.KeyOrder.{key_order}
use Rattle.mesh_base.specs.declared.client.Entry.{Entry}
use Rattle.mesh_base.specs.declared.client.Key.{Key}
use Rattle.mesh_model.specs.declared.table_change.Change.{Change}
use Rattle.mesh_model.specs.Tables.Changes.{IsInKeyOrder, has_entry, missing_from, deletion, addition}
use Rattle.mesh_model.specs.Tables.Strict.{apply_strictly, change_each, change_one, without_entry, with_entry, deletions, additions, and_then}
use Rattle.mesh_laws.specs.TableLaws.{ChangesetLeads, NamesKeysOnce, AdditionsMakeTable, changed_keys}
use Rattle.mesh_laws.proofs.KeyTables.{IsBelow, below_filter, ordered_filter, has_filtered, determined}
use Rattle.mesh_laws.proofs.PresentLemmas.{key_total}

-- ---- changes above a table's first entry
-- a key is below each key that changes name
abbrev pub IsBelowChanges : Key → List Change → Type 0
IsBelowChanges k cs = AllByRecursion (λ y. key_order k y ≡ Less) (changed_keys cs)

pub one_above : (e : Entry) (c : Change) (t : List Entry) → key_order e.key c.entry.key ≡ Less → change_one c (e ∷ t) ≡ option_map (λ u. e ∷ u) (change_one c t)
one_above e c t below = go c.del
  where
    above : key_order c.entry.key e.key ≡ Greater
    above = key_total.antisymm c.entry.key e.key ∙ ap ordering_reverse below

    go : (b : Bool) → cond b (without_entry c.entry (e ∷ t)) (with_entry c.entry (e ∷ t)) ≡ option_map (λ u. e ∷ u) (cond b (without_entry c.entry t) (with_entry c.entry t))
    go true = ap (λ r. match_ordering r None (cond (c.entry.flags == e.flags) (Some t) None) (option_map (λ u. e ∷ u) (without_entry c.entry t))) above
    go false = ap (λ r. match_ordering r (Some (c.entry ∷ e ∷ t)) None (option_map (λ u. e ∷ u) (with_entry c.entry t))) above

pub each_above : (e : Entry) (cs : List Change) (t u : List Entry) → IsBelowChanges e.key cs → change_each cs t ≡ Ok u → change_each cs (e ∷ t) ≡ Ok (e ∷ u)
each_above e [] t u below h =
    let same : t ≡ u = cc in
    ap (λ x. Ok (e ∷ x)) same
each_above e (c ∷ cs) t u below h = go (change_one c t) refl h (λ w. each_above e cs w u below.1)
  where
    go : (o : Option (List Entry)) → change_one c t ≡ o → and_then (change_each cs) (ok_or o c) ≡ Ok u → ((w : List Entry) → change_each cs w ≡ Ok u → change_each cs (e ∷ w) ≡ Ok (e ∷ u)) → change_each (c ∷ cs) (e ∷ t) ≡ Ok (e ∷ u)
    go None p h ih = cc
    go (Some w) p h ih = ap (λ o. and_then (change_each cs) (ok_or o c)) (one_above e c t below.0 ∙ ap (option_map (λ x. e ∷ x)) p) ∙ ih w h

pub each_append : (cs ds : List Change) (t u : List Entry) → change_each cs t ≡ Ok u → change_each (cs ++ ds) t ≡ change_each ds u
each_append [] ds t u h =
    let same : t ≡ u = cc in
    ap (change_each ds) same
each_append (c ∷ cs) ds t u h = go (change_one c t) h (λ w. each_append cs ds w u)
  where
    go : (o : Option (List Entry)) → and_then (change_each cs) (ok_or o c) ≡ Ok u → ((w : List Entry) → change_each cs w ≡ Ok u → change_each (cs ++ ds) w ≡ change_each ds u) → and_then (change_each (cs ++ ds)) (ok_or o c) ≡ change_each ds u
    go None h ih = cc
    go (Some w) h ih = ih w h

-- ---- deletions and additions
pub first_taken : (e : Entry) (t : List Entry) → without_entry e (e ∷ t) ≡ Some t
first_taken e t =
    ap₂ (λ r b. match_ordering r None (cond b (Some t) None) (option_map (λ u. e ∷ u) (without_entry e t)))
    (tied_itself key_total e.key) (eq-eqb e.flags e.flags refl)

pub first_put : (e : Entry) (t : List Entry) → IsBelow e.key t → with_entry e t ≡ Some (e ∷ t)
first_put e [] below = refl
first_put e (f ∷ t) below = ap (λ r. match_ordering r (Some (e ∷ f ∷ t)) None (option_map (λ u. f ∷ u) (with_entry e t))) below.0

below_made : (make : Entry → Change) → ((e : Entry) → (make e).entry ≡ e) → (k : Key) (t : List Entry) → IsBelow k t → IsBelowChanges k (map make t)
below_made make same k [] below = tt
below_made make same k (e ∷ t) below = (ap (λ x. key_order k x.key) (same e) ∙ below.0, below_made make same k t below.1)

-- deleting what fails a test leaves what passes it
deleted : (p : Entry → Bool) (t : List Entry) → IsInKeyOrder t → change_each (map deletion (filter (λ e. not (p e)) t)) t ≡ Ok (filter p t)
unfolding IsStrictlySortedBy
deleted p [] s = refl
deleted p (e ∷ t) s =
    let gone : List Entry = filter (λ x. not (p x)) t in
    elim (p e) as (λ b. change_each (map deletion (cond (not b) (e ∷ gone) gone)) (e ∷ t) ≡ Ok (cond b (e ∷ filter p t) (filter p t))) [
      | true ↦ each_above e (map deletion gone) t (filter p t) (below_made deletion (λ x. refl) e.key gone (below_filter (λ x. not (p x)) e.key t s.0)) (deleted p t s.1)
      | false ↦ ap (λ o. and_then (change_each (map deletion gone)) (ok_or o (deletion e))) (first_taken e t) ∙ deleted p t s.1
    ]

-- adding what fails a test to what passes it makes the whole
added : (p : Entry → Bool) (t : List Entry) → IsInKeyOrder t → change_each (map addition (filter (λ e. not (p e)) t)) (filter p t) ≡ Ok t
unfolding IsStrictlySortedBy
added p [] s = refl
added p (e ∷ t) s =
    let new : List Entry = filter (λ x. not (p x)) t in
    let rest : change_each (map addition new) (e ∷ filter p t) ≡ Ok (e ∷ t) =
    each_above e (map addition new) (filter p t) t (below_made addition (λ x. refl) e.key new (below_filter (λ x. not (p x)) e.key t s.0)) (added p t s.1) in
    elim (p e) as (λ b. change_each (map addition (cond (not b) (e ∷ new) new)) (cond b (e ∷ filter p t) (filter p t)) ≡ Ok (e ∷ t)) [
      | true ↦ rest
      | false ↦ ap (λ o. and_then (change_each (map addition new)) (ok_or o (addition e))) (first_put e (filter p t) (below_filter p e.key t s.0)) ∙ rest
    ]

-- ---- a changeset's halves
no_deletions : (xs : List Entry) → deletions (map addition xs) ≡ []
no_deletions [] = refl
no_deletions (x ∷ xs) = no_deletions xs

all_additions : (xs : List Entry) → additions (map addition xs) ≡ map addition xs
all_additions [] = refl
all_additions (x ∷ xs) = ap (λ cs. addition x ∷ cs) (all_additions xs)

pub first_half : (gone new : List Entry) → deletions (map deletion gone ++ map addition new) ≡ map deletion gone
first_half [] new = no_deletions new
first_half (e ∷ gone) new = ap (λ cs. deletion e ∷ cs) (first_half gone new)

pub second_half : (gone new : List Entry) → additions (map deletion gone ++ map addition new) ≡ map addition new
second_half [] new = all_additions new
second_half (e ∷ gone) new = second_half gone new

-- what two tables share is the same from either side
shared : (a b : List Entry) → IsInKeyOrder a → IsInKeyOrder b → filter (has_entry b) a ≡ filter (has_entry a) b
shared a b s r = determined _ _ (ordered_filter (has_entry b) a s) (ordered_filter (has_entry a) b r)
    (λ e. has_filtered (has_entry b) a e ∙ and_comm (has_entry a e) (has_entry b e) ∙ sym (has_filtered (has_entry a) b e))

-- ---- the laws
pub changeset_leads : ChangesetLeads
changeset_leads a b s r =
    let gone : List Entry = missing_from b a in
    let new : List Entry = missing_from a b in
    ap₂ (λ x y. change_each (x ++ y) a) (first_half gone new) (second_half gone new)
    ∙ each_append (map deletion gone) (map addition new) a (filter (has_entry b) a) (deleted (has_entry b) a s)
    ∙ ap (change_each (map addition new)) (shared a b s r)
    ∙ added (has_entry a) b r

keys_made : (make : Entry → Change) → ((e : Entry) → (make e).entry ≡ e) → (t : List Entry) → changed_keys (map make t) ≡ map (λ e. e.key) t
keys_made make same [] = refl
keys_made make same (e ∷ t) = ap₂ (λ k ks. k ∷ ks) (ap (λ x. x.key) (same e)) (keys_made make same t)

pub names_keys_once : NamesKeysOnce
names_keys_once a b s r =
    let gone : List Entry = missing_from b a in
    let new : List Entry = missing_from a b in (
      subst (IsStrictlySortedBy key_order) (sym (ap changed_keys (first_half gone new) ∙ keys_made deletion (λ e. refl) gone)) (ordered_filter (λ e. not (has_entry b e)) a s),
      subst (IsStrictlySortedBy key_order) (sym (ap changed_keys (second_half gone new) ∙ keys_made addition (λ e. refl) new)) (ordered_filter (λ e. not (has_entry a e)) b r),
    )

all_missing : (t : List Entry) → missing_from [] t ≡ t
all_missing [] = refl
all_missing (e ∷ t) = ap (λ x. e ∷ x) (all_missing t)

pub additions_make_table : AdditionsMakeTable
unfolding IsStrictlySortedBy
additions_make_table t s = ap (λ x. apply_strictly [] (map addition x)) (sym (all_missing t)) ∙ changeset_leads [] t tt s
