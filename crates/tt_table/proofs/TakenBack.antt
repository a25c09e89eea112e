-- An entry taken out of entries in key order and put in again, and the order that both leave.
use Rattle.std.proofs.Common.{◌≡◌, Bool, true, false, cond, not, nat_eq, List, [], ◌∷◌, map, Option, Some, None, option_map, ok_or, Ok, refl, sym, ap, ◌∙◌, subst, Less, Equal, Greater}
use Rattle.std.specs.List.{AllByRecursion}
use Rattle.std.specs.List.Sorted.{IsStrictlySortedBy}
use Rattle.std.specs.Ordering.{ordering_reverse}
use Rattle.std.proofs.lemmas.Bool.{eqb-true, eq-eqb}
use Rattle.std.proofs.lemmas.Cmp.{tied_itself}
use Rattle.mesh_base.specs.KeyOrder.{key_order}
use Rattle.mesh_base.specs.declared.client.Entry.{Entry}
use Rattle.mesh_base.specs.declared.client.Key.{Key}
use Rattle.mesh_laws.proofs.PresentLemmas.{key_total, key_exact}
use Rattle.mesh_model.specs.Tables.Changes.{IsInKeyOrder}
use Rattle.mesh_model.specs.Tables.Strict.{and_then, change_each, change_one, with_entry, without_entry}
use Rattle.mesh_model.specs.declared.table_change.Change.{Change}
use Rattle.tt_table.proofs.EntriesLemmas.{with_at, without_at}

-- ---- an entry taken back
pub record Behind (first : Entry) (o : Option (List Entry)) (u : List Entry) : Type 0 where
  pub others : List Entry
  pub is : o ≡ Some others
  pub whole : first ∷ others ≡ u

pub behind : (first : Entry) (o : Option (List Entry)) (u : List Entry) → option_map (λ l. first ∷ l) o ≡ Some u → Behind first o u
behind first None u h = absurd (let k : ⊥ = cc in k)
behind first (Some v) u h = record { others = v; is = refl; whole = cc }

without_first : (entry : Entry) (rest : List Entry) → without_entry entry (entry ∷ rest) ≡ Some rest
without_first entry rest =
    without_at entry entry rest Equal (tied_itself key_total entry.key)
    ∙ ap (λ b. cond b (Some rest) None) (eq-eqb entry.flags entry.flags refl)

pub taken_back : (entry : Entry) (t u : List Entry) → with_entry entry t ≡ Some u → without_entry entry u ≡ Some t
taken_back entry [] u e = subst (λ l. without_entry entry l ≡ Some []) (let k : entry ∷ [] ≡ u = cc in k) (without_first entry [])
taken_back entry (first ∷ rest) u e =
    elim (key_order entry.key first.key) as (λ r. key_order entry.key first.key ≡ r → without_entry entry u ≡ Some (first ∷ rest)) [
      | Less ↦ λ p.
          let h = sym (with_at entry first rest Less p) ∙ e in
          let k : entry ∷ first ∷ rest ≡ u = cc in subst (λ l. without_entry entry l ≡ Some (first ∷ rest)) k (without_first entry (first ∷ rest))
      | Equal ↦ λ p. let h = sym (with_at entry first rest Equal p) ∙ e in absurd (let k : ⊥ = cc in k)
      | Greater ↦ λ p.
          let b = behind first (with_entry entry rest) u (sym (with_at entry first rest Greater p) ∙ e) in
          subst (λ l. without_entry entry l ≡ Some (first ∷ rest)) b.whole
          (without_at entry first b.others Greater p ∙ ap (option_map (λ l. first ∷ l)) (taken_back entry rest b.others b.is))
    ] refl

with_first : (entry : Entry) (rest : List Entry) → IsInKeyOrder (entry ∷ rest) → with_entry entry rest ≡ Some (entry ∷ rest)
unfolding IsStrictlySortedBy
with_first entry [] order = refl
with_first entry (y ∷ ys) order = with_at entry y ys Less order.0.0

pub same_entry : (a b : Entry) → key_order a.key b.key ≡ Equal → nat_eq a.flags b.flags ≡ true → a ≡ b
same_entry a b e f = let k = key_exact a.key b.key e in let g = eqb-true a.flags b.flags f in λ i. record { key = k i; flags = g i }

pub put_back : (entry : Entry) (t u : List Entry) → IsInKeyOrder t → without_entry entry t ≡ Some u → with_entry entry u ≡ Some t
unfolding IsStrictlySortedBy
put_back entry [] u order e = absurd (let k : ⊥ = cc in k)
put_back entry (first ∷ rest) u order e =
    elim (key_order entry.key first.key) as (λ r. key_order entry.key first.key ≡ r → with_entry entry u ≡ Some (first ∷ rest)) [
      | Less ↦ λ p. let h = sym (without_at entry first rest Less p) ∙ e in absurd (let k : ⊥ = cc in k)
      | Equal ↦ λ p. at_first p (nat_eq entry.flags first.flags) refl (sym (without_at entry first rest Equal p) ∙ e)
      | Greater ↦ λ p.
          let b = behind first (without_entry entry rest) u (sym (without_at entry first rest Greater p) ∙ e) in
          subst (λ l. with_entry entry l ≡ Some (first ∷ rest)) b.whole
          (with_at entry first b.others Greater p ∙ ap (option_map (λ l. first ∷ l)) (put_back entry rest b.others order.1 b.is))
    ] refl
  where
    at_first : key_order entry.key first.key ≡ Equal → (b : Bool) → nat_eq entry.flags first.flags ≡ b → cond b (Some rest) None ≡ Some u → with_entry entry u ≡ Some (first ∷ rest)
    at_first p true f h =
        let k : rest ≡ u = cc in let same = same_entry entry first p f in
        subst (λ l. with_entry entry l ≡ Some (first ∷ rest)) k (subst (λ x. with_entry x rest ≡ Some (first ∷ rest)) (sym same) (with_first first rest order))
    at_first p false f h = absurd (let k : ⊥ = cc in k)

-- ---- the order of keys stays
keys_above : (P : Key → Type 0) (entry : Entry) (t u : List Entry) → with_entry entry t ≡ Some u → P entry.key → AllByRecursion P (map (λ x. x.key) t) → AllByRecursion P (map (λ x. x.key) u)
keys_above P entry [] u e p all = subst (λ l. AllByRecursion P (map (λ x. x.key) l)) (let k : entry ∷ [] ≡ u = cc in k) (p, tt)
keys_above P entry (first ∷ rest) u e p all =
    elim (key_order entry.key first.key) as (λ r. key_order entry.key first.key ≡ r → AllByRecursion P (map (λ x. x.key) u)) [
      | Less ↦ λ q.
          let h = sym (with_at entry first rest Less q) ∙ e in
          let k : entry ∷ first ∷ rest ≡ u = cc in subst (λ l. AllByRecursion P (map (λ x. x.key) l)) k (p, all)
      | Equal ↦ λ q. let h = sym (with_at entry first rest Equal q) ∙ e in absurd (let k : ⊥ = cc in k)
      | Greater ↦ λ q.
          let b = behind first (with_entry entry rest) u (sym (with_at entry first rest Greater q) ∙ e) in
          subst (λ l. AllByRecursion P (map (λ x. x.key) l)) b.whole (all.0, keys_above P entry rest b.others b.is p all.1)
    ] refl

keys_left : (P : Key → Type 0) (entry : Entry) (t u : List Entry) → without_entry entry t ≡ Some u → AllByRecursion P (map (λ x. x.key) t) → AllByRecursion P (map (λ x. x.key) u)
keys_left P entry [] u e all = absurd (let k : ⊥ = cc in k)
keys_left P entry (first ∷ rest) u e all =
    elim (key_order entry.key first.key) as (λ r. key_order entry.key first.key ≡ r → AllByRecursion P (map (λ x. x.key) u)) [
      | Less ↦ λ q. let h = sym (without_at entry first rest Less q) ∙ e in absurd (let k : ⊥ = cc in k)
      | Equal ↦ λ q. at_first (nat_eq entry.flags first.flags) (sym (without_at entry first rest Equal q) ∙ e)
      | Greater ↦ λ q.
          let b = behind first (without_entry entry rest) u (sym (without_at entry first rest Greater q) ∙ e) in
          subst (λ l. AllByRecursion P (map (λ x. x.key) l)) b.whole (all.0, keys_left P entry rest b.others b.is all.1)
    ] refl
  where
    at_first : (b : Bool) → cond b (Some rest) None ≡ Some u → AllByRecursion P (map (λ x. x.key) u)
    at_first true h = subst (λ l. AllByRecursion P (map (λ x. x.key) l)) (let k : rest ≡ u = cc in k) all.1
    at_first false h = absurd (let k : ⊥ = cc in k)

all_further : (a b : Key) (ks : List Key) → key_order a b ≡ Less → AllByRecursion (λ y. key_order b y ≡ Less) ks → AllByRecursion (λ y. key_order a y ≡ Less) ks
all_further a b [] e all = tt
all_further a b (k ∷ ks) e all = (key_total.trans a b k e all.0, all_further a b ks e all.1)

pub order_with : (entry : Entry) (t u : List Entry) → with_entry entry t ≡ Some u → IsInKeyOrder t → IsInKeyOrder u
unfolding IsStrictlySortedBy
order_with entry [] u e order = subst IsInKeyOrder (let k : entry ∷ [] ≡ u = cc in k) (tt, tt)
order_with entry (first ∷ rest) u e order =
    elim (key_order entry.key first.key) as (λ r. key_order entry.key first.key ≡ r → IsInKeyOrder u) [
      | Less ↦ λ q.
          let h = sym (with_at entry first rest Less q) ∙ e in
          let k : entry ∷ first ∷ rest ≡ u = cc in subst IsInKeyOrder k ((q, all_further entry.key first.key (map (λ x. x.key) rest) q order.0), order)
      | Equal ↦ λ q. let h = sym (with_at entry first rest Equal q) ∙ e in absurd (let k : ⊥ = cc in k)
      | Greater ↦ λ q.
          let b = behind first (with_entry entry rest) u (sym (with_at entry first rest Greater q) ∙ e) in
          let below = key_total.antisymm first.key entry.key ∙ ap ordering_reverse q in
          subst IsInKeyOrder b.whole (keys_above (λ y. key_order first.key y ≡ Less) entry rest b.others b.is below order.0, order_with entry rest b.others b.is order.1)
    ] refl

pub order_without : (entry : Entry) (t u : List Entry) → without_entry entry t ≡ Some u → IsInKeyOrder t → IsInKeyOrder u
unfolding IsStrictlySortedBy
order_without entry [] u e order = absurd (let k : ⊥ = cc in k)
order_without entry (first ∷ rest) u e order =
    elim (key_order entry.key first.key) as (λ r. key_order entry.key first.key ≡ r → IsInKeyOrder u) [
      | Less ↦ λ q. let h = sym (without_at entry first rest Less q) ∙ e in absurd (let k : ⊥ = cc in k)
      | Equal ↦ λ q. at_first (nat_eq entry.flags first.flags) (sym (without_at entry first rest Equal q) ∙ e)
      | Greater ↦ λ q.
          let b = behind first (without_entry entry rest) u (sym (without_at entry first rest Greater q) ∙ e) in
          subst IsInKeyOrder b.whole (keys_left (λ y. key_order first.key y ≡ Less) entry rest b.others b.is order.0, order_without entry rest b.others b.is order.1)
    ] refl
  where
    at_first : (b : Bool) → cond b (Some rest) None ≡ Some u → IsInKeyOrder u
    at_first true h = subst IsInKeyOrder (let k : rest ≡ u = cc in k) order.1
    at_first false h = absurd (let k : ⊥ = cc in k)

-- ---- a change taken back, and the order of keys
pub order_one : (c : Change) (t u : List Entry) → change_one c t ≡ Some u → IsInKeyOrder t → IsInKeyOrder u
order_one c t u e order =
    elim c.del as (λ b. cond b (without_entry c.entry t) (with_entry c.entry t) ≡ Some u → IsInKeyOrder u) [
      | true ↦ λ h. order_without c.entry t u h order
      | false ↦ λ h. order_with c.entry t u h order
    ] e

pub order_each : (cs : List Change) (t u : List Entry) → change_each cs t ≡ Ok u → IsInKeyOrder t → IsInKeyOrder u
order_each [] t u e order = subst IsInKeyOrder (let k : t ≡ u = cc in k) order
order_each (c ∷ cs) t u e order =
    elim (change_one c t) as (λ o. change_one c t ≡ o → and_then (change_each cs) (ok_or o c) ≡ Ok u → IsInKeyOrder u) [
      | None ↦ λ p h. absurd (let k : ⊥ = cc in k)
      | Some v ↦ λ p h. order_each cs v u h (order_one c t v p order)
    ] refl e

pub undone_one : (c : Change) (t u : List Entry) → IsInKeyOrder t → change_one c t ≡ Some u → change_one (record { entry = c.entry; del = not c.del }) u ≡ Some t
undone_one c t u order e =
    elim c.del as (λ b. cond b (without_entry c.entry t) (with_entry c.entry t) ≡ Some u → cond (not b) (without_entry c.entry u) (with_entry c.entry u) ≡ Some t) [
      | true ↦ λ h. put_back c.entry t u order h
      | false ↦ λ h. taken_back c.entry t u h
    ] e
