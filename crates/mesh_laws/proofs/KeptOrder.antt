-- Strict application keeps a table in key order.
use Rattle.std.proofs.Common.{◌≡◌, Bool, true, false, cond, ◌==◌, List, [], ◌∷◌, ◌++◌, option_map, ok_or, Option, Some, None, Ok, Ordering, Less, Equal, Greater, refl, ap, ◌∙◌, subst}
use Rattle.std.specs.List.Sorted.{IsStrictlySortedBy}
use Rattle.std.specs.Ordering.{ordering_reverse, match_ordering}
use Rattle.mesh_base.specs.KeyOrder.{key_order}
use Rattle.mesh_base.specs.declared.client.Entry.{Entry}
use Rattle.mesh_base.specs.declared.client.Key.{Key}
use Rattle.mesh_model.specs.declared.table_change.Change.{Change}
use Rattle.mesh_model.specs.Tables.Changes.{IsInKeyOrder}
use Rattle.mesh_model.specs.Tables.Strict.{change_each, change_one, without_entry, with_entry, deletions, additions, and_then}
use Rattle.mesh_laws.specs.TableLaws.{KeepsKeyOrder}
use Rattle.mesh_laws.proofs.KeyTables.{IsBelow}
use Rattle.mesh_laws.proofs.PresentLemmas.{key_total}

-- what is below a key is below what the key is below
pub below_later : (k q : Key) (t : List Entry) → key_order k q ≡ Less → IsBelow q t → IsBelow k t
below_later k q [] less below = tt
below_later k q (e ∷ t) less below = (key_total.trans k q e.key less below.0, below_later k q t less below.1)

below_without : (k : Key) (e : Entry) (t u : List Entry) → IsBelow k t → without_entry e t ≡ Some u → IsBelow k u
below_without k e [] u below h = cc
below_without k e (f ∷ t) u below h = go (key_order e.key f.key) (e.flags == f.flags) (without_entry e t) (λ w. below_without k e t w below.1) h
  where
    go : (r : Ordering) (b : Bool) (o : Option (List Entry)) → ((w : List Entry) → o ≡ Some w → IsBelow k w) → match_ordering r None (cond b (Some t) None) (option_map (λ w. f ∷ w) o) ≡ Some u → IsBelow k u
    go Less b o ih h = cc
    go Equal true o ih h =
        let same : t ≡ u = cc in
        subst (IsBelow k) same below.1
    go Equal false o ih h = cc
    go Greater b None ih h = cc
    go Greater b (Some w) ih h =
        let same : f ∷ w ≡ u = cc in
        subst (IsBelow k) same (below.0, ih w refl)

below_with : (k : Key) (e : Entry) (t u : List Entry) → key_order k e.key ≡ Less → IsBelow k t → with_entry e t ≡ Some u → IsBelow k u
below_with k e [] u less below h =
    let same : e ∷ [] ≡ u = cc in
    subst (IsBelow k) same (less, tt)
below_with k e (f ∷ t) u less below h = go (key_order e.key f.key) (with_entry e t) (λ w. below_with k e t w less below.1) h
  where
    go : (r : Ordering) (o : Option (List Entry)) → ((w : List Entry) → o ≡ Some w → IsBelow k w) → match_ordering r (Some (e ∷ f ∷ t)) None (option_map (λ w. f ∷ w) o) ≡ Some u → IsBelow k u
    go Less o ih h =
        let same : e ∷ f ∷ t ≡ u = cc in
        subst (IsBelow k) same (less, below)
    go Equal o ih h = cc
    go Greater None ih h = cc
    go Greater (Some w) ih h =
        let same : f ∷ w ≡ u = cc in
        subst (IsBelow k) same (below.0, ih w refl)

-- without an entry a table stays in key order
pub ordered_without : (e : Entry) (t u : List Entry) → IsInKeyOrder t → without_entry e t ≡ Some u → IsInKeyOrder u
unfolding IsStrictlySortedBy
ordered_without e [] u s h = cc
ordered_without e (f ∷ t) u s h = go (key_order e.key f.key) (e.flags == f.flags) (without_entry e t) refl (λ w. ordered_without e t w s.1) h
  where
    go : (r : Ordering) (b : Bool) (o : Option (List Entry)) → without_entry e t ≡ o → ((w : List Entry) → o ≡ Some w → IsInKeyOrder w) → match_ordering r None (cond b (Some t) None) (option_map (λ w. f ∷ w) o) ≡ Some u → IsInKeyOrder u
    go Less b o p ih h = cc
    go Equal true o p ih h =
        let same : t ≡ u = cc in
        subst IsInKeyOrder same s.1
    go Equal false o p ih h = cc
    go Greater b None p ih h = cc
    go Greater b (Some w) p ih h =
        let same : f ∷ w ≡ u = cc in
        subst IsInKeyOrder same (below_without f.key e t w s.0 p, ih w refl)

-- with one more entry a table stays in key order
pub ordered_with : (e : Entry) (t u : List Entry) → IsInKeyOrder t → with_entry e t ≡ Some u → IsInKeyOrder u
unfolding IsStrictlySortedBy
ordered_with e [] u s h =
    let same : e ∷ [] ≡ u = cc in
    subst IsInKeyOrder same (tt, tt)
ordered_with e (f ∷ t) u s h = go (key_order e.key f.key) refl (with_entry e t) refl (λ w. ordered_with e t w s.1) h
  where
    go : (r : Ordering) → key_order e.key f.key ≡ r → (o : Option (List Entry)) → with_entry e t ≡ o → ((w : List Entry) → o ≡ Some w → IsInKeyOrder w) → match_ordering r (Some (e ∷ f ∷ t)) None (option_map (λ w. f ∷ w) o) ≡ Some u → IsInKeyOrder u
    go Less k o p ih h =
        let same : e ∷ f ∷ t ≡ u = cc in
        subst IsInKeyOrder same ((k, below_later e.key f.key t k s.0), s)
    go Equal k o p ih h = cc
    go Greater k None p ih h = cc
    go Greater k (Some w) p ih h =
        let same : f ∷ w ≡ u = cc in
        let less : key_order f.key e.key ≡ Less = key_total.antisymm f.key e.key ∙ ap ordering_reverse k in
        subst IsInKeyOrder same (below_with f.key e t w less s.0 p, ih w refl)

ordered_change : (c : Change) (t u : List Entry) → IsInKeyOrder t → change_one c t ≡ Some u → IsInKeyOrder u
ordered_change c t u s h = go c.del h
  where
    go : (b : Bool) → cond b (without_entry c.entry t) (with_entry c.entry t) ≡ Some u → IsInKeyOrder u
    go true h = ordered_without c.entry t u s h
    go false h = ordered_with c.entry t u s h

ordered_each : (cs : List Change) (t u : List Entry) → IsInKeyOrder t → change_each cs t ≡ Ok u → IsInKeyOrder u
ordered_each [] t u s h =
    let same : t ≡ u = cc in
    subst IsInKeyOrder same s
ordered_each (c ∷ cs) t u s h = go (change_one c t) refl (λ w r. ordered_each cs w u r) h
  where
    go : (o : Option (List Entry)) → change_one c t ≡ o → ((w : List Entry) → IsInKeyOrder w → change_each cs w ≡ Ok u → IsInKeyOrder u) → and_then (change_each cs) (ok_or o c) ≡ Ok u → IsInKeyOrder u
    go None p ih h = cc
    go (Some w) p ih h = ih w (ordered_change c t w s p) h

pub keeps_key_order : KeepsKeyOrder
keeps_key_order t u cs s h = ordered_each (deletions cs ++ additions cs) t u s h
