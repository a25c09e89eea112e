-- Changes one after another: what they make of entries, how they are taken back, and how many entries they leave.
use Rattle.std.proofs.Common.{◌≡◌, ℕ, ◌+◌, ◌<◌, ◌≤◌, Bool, true, false, cond, not, List, [], ◌∷◌, ◌++◌, filter, length, take, get_or, Option, Some, None, ok_or, Result, Ok, Err, refl, sym, ap, ◌∙◌, arith, is_err, length-append, ap₂, append-nil, drop}
use Rattle.std.proofs.lemmas.Bool.{true≢false}
use mathlib.Core.Bool.{beq}
use Rattle.mesh_base.specs.declared.client.Entry.{Entry}
use Rattle.mesh_model.specs.Tables.Changes.{IsInKeyOrder}
use Rattle.mesh_model.specs.Tables.Strict.{additions, and_then, apply_strictly, change_each, change_one, deletions}
use Rattle.mesh_model.specs.declared.table_change.Change.{Change}
use Rattle.tt_table.specs.Entries.{half, Tells}
use Rattle.tt_table.specs.Table.{Becomes}
use Rattle.std.proofs.lemmas.List.{take-append-drop}
use Rattle.std.proofs.lemmas.List.Elements.{filter-append, filter_more}
use Rattle.tt_table.proofs.TakenBack.{order_each, undone_one}

-- ---- one after another
after_first : (cs ds : List Change) (r : Result (List Entry) Change) → ((u : List Entry) → change_each (cs ++ ds) u ≡ and_then (change_each ds) (change_each cs u))
    → and_then (change_each (cs ++ ds)) r ≡ and_then (change_each ds) (and_then (change_each cs) r)
after_first cs ds (Ok u) rest = rest u
after_first cs ds (Err c) rest = refl

pub each_append : (cs ds : List Change) (t : List Entry) → change_each (cs ++ ds) t ≡ and_then (change_each ds) (change_each cs t)
each_append [] ds t = refl
each_append (c ∷ cs) ds t = after_first cs ds (ok_or (change_one c t) c) (each_append cs ds)

nothing_more : (r : Result (List Entry) Change) → and_then (change_each []) r ≡ r
nothing_more (Ok u) = refl
nothing_more (Err c) = refl

-- one change more
pub one_more : (cs : List Change) (c : Change) (t u : List Entry) → change_each cs t ≡ Ok u → change_each (cs ++ c ∷ []) t ≡ ok_or (change_one c u) c
one_more cs c t u e = each_append cs (c ∷ []) t ∙ ap (and_then (change_each (c ∷ []))) e ∙ nothing_more (ok_or (change_one c u) c)

-- what fails goes on failing
pub fails_on : (cs ds : List Change) (t : List Entry) (c : Change) → change_each cs t ≡ Err c → change_each (cs ++ ds) t ≡ Err c
fails_on cs ds t c e = each_append cs ds t ∙ ap (and_then (change_each ds)) e

-- the entries before the last change
pub record LastOf (cs : List Change) (c : Change) (t u : List Entry) : Type 0 where
  pub before : List Entry
  pub first : change_each cs t ≡ Ok before
  pub last : change_one c before ≡ Some u

last_some : (o : Option (List Entry)) (c : Change) (u : List Entry) → ok_or o c ≡ Ok u → o ≡ Some u
last_some None c u h = absurd (let k : ⊥ = cc in k)
last_some (Some v) c u h = cc

last_from : (cs : List Change) (c : Change) (t u : List Entry) (r : Result (List Entry) Change) → change_each (cs ++ c ∷ []) t ≡ Ok u → change_each cs t ≡ r → LastOf cs c t u
last_from cs c t u (Ok b) e p = record { before = b; first = p; last = last_some (change_one c b) c u (sym (one_more cs c t b p) ∙ e) }
last_from cs c t u (Err d) e p = let h = fails_on cs (c ∷ []) t d p in absurd (let k : ⊥ = cc in k)

pub last_of : (cs : List Change) (c : Change) (t u : List Entry) → change_each (cs ++ c ∷ []) t ≡ Ok u → LastOf cs c t u
last_of cs c t u e = last_from cs c t u (change_each cs t) e refl

-- ---- the halves of changes
-- what is read of a list of changes past its end
abbrev pub any_change : Change
any_change = record { entry = record { key = record { mac = record { 0 = [] }; vid = record { 0 = 0 } }; flags = 0 }; del = false }

abbrev pub is_half : Bool → Change → Bool
is_half true c = c.del
is_half false c = not c.del

pub half_chosen : (del : Bool) (c : Change) → beq c.del del ≡ true → is_half del c ≡ true
half_chosen true c e = elim c.del as (λ b. beq b true ≡ true → b ≡ true) [ true ↦ λ h. refl | false ↦ λ h. h ] e
half_chosen false c e = elim c.del as (λ b. beq b false ≡ true → not b ≡ true) [ true ↦ λ h. h | false ↦ λ h. refl ] e

pub half_other : (del : Bool) (c : Change) → beq c.del del ≡ false → is_half del c ≡ false
half_other true c e = elim c.del as (λ b. beq b true ≡ false → b ≡ false) [ true ↦ λ h. absurd (true≢false h) | false ↦ λ h. refl ] e
half_other false c e = elim c.del as (λ b. beq b false ≡ false → not b ≡ false) [ true ↦ λ h. refl | false ↦ λ h. absurd (true≢false h) ] e

pub half_deleted : (del : Bool) (c : Change) → del ≡ true → is_half del c ≡ true → c.del ≡ true
half_deleted true c e h = h
half_deleted false c e h = absurd (true≢false (sym e))

half_is : (del : Bool) (cs : List Change) → half del cs ≡ filter (is_half del) cs
half_is true cs = refl
half_is false cs = refl

half_more : (del : Bool) (cs : List Change) (i : ℕ) (d : Change) → i < length cs
    → half del (take (i + 1) cs) ≡ half del (take i cs) ++ cond (is_half del (get_or cs i d)) (get_or cs i d ∷ []) []
half_more del cs i d lt =
    half_is del (take (i + 1) cs) ∙ filter_more (is_half del) cs i d lt
    ∙ ap (λ l. l ++ cond (is_half del (get_or cs i d)) (get_or cs i d ∷ []) []) (sym (half_is del (take i cs)))

half_taken : (del : Bool) (cs : List Change) (i : ℕ) (d : Change) → i < length cs → is_half del (get_or cs i d) ≡ true
    → half del (take (i + 1) cs) ≡ half del (take i cs) ++ get_or cs i d ∷ []
half_taken del cs i d lt e = half_more del cs i d lt ∙ ap (λ b. half del (take i cs) ++ cond b (get_or cs i d ∷ []) []) e

-- a change of the other half
pub half_passed : (del : Bool) (cs : List Change) (i : ℕ) (d : Change) → i < length cs → is_half del (get_or cs i d) ≡ false
    → half del (take (i + 1) cs) ≡ half del (take i cs)
half_passed del cs i d lt e =
    half_more del cs i d lt ∙ ap (λ b. half del (take i cs) ++ cond b (get_or cs i d ∷ []) []) e ∙ append-nil (half del (take i cs))

half_split : (del : Bool) (cs : List Change) (i : ℕ) → half del cs ≡ half del (take i cs) ++ half del (drop i cs)
half_split del cs i =
    ap (half del) (sym (take-append-drop i cs)) ∙ half_is del (take i cs ++ drop i cs) ∙ filter-append (is_half del) (take i cs) (drop i cs)
    ∙ ap₂ (λ a b. a ++ b) (sym (half_is del (take i cs))) (sym (half_is del (drop i cs)))

-- how many changes of a half there are
pub half_within : (del : Bool) (cs : List Change) (i : ℕ) → length (half del (take i cs)) ≤ length (half del cs)
half_within del cs i =
    let whole = ap length (half_split del cs i) in let parts = length-append (half del (take i cs)) (half del (drop i cs)) in omega (arith, whole, parts)

pub half_counted : (del : Bool) (cs : List Change) (i : ℕ) (d : Change) → i < length cs → is_half del (get_or cs i d) ≡ true
    → length (half del (take (i + 1) cs)) ≡ length (half del (take i cs)) + 1
half_counted del cs i d lt chosen = ap length (half_taken del cs i d lt chosen) ∙ length-append (half del (take i cs)) (get_or cs i d ∷ [])

-- ---- one change of a half more
module _ (del : Bool) (cs : List Change) (i : ℕ) (d : Change) (within : i < length cs) (chosen : is_half del (get_or cs i d) ≡ true) (t : List Entry) where
  pub step_made : (u v : List Entry) → change_each (half del (take i cs)) t ≡ Ok u → change_one (get_or cs i d) u ≡ Some v → change_each (half del (take (i + 1) cs)) t ≡ Ok v
  step_made u v e s =
      ap (λ l. change_each l t) (half_taken del cs i d within chosen) ∙ one_more (half del (take i cs)) (get_or cs i d) t u e
      ∙ ap (λ o. ok_or o (get_or cs i d)) s

  pub step_failed : (u : List Entry) → change_each (half del (take i cs)) t ≡ Ok u → change_one (get_or cs i d) u ≡ None → change_each (half del cs) t ≡ Err (get_or cs i d)
  step_failed u e s =
      ap (λ l. change_each l t) (half_split del cs (i + 1))
      ∙ fails_on (half del (take (i + 1) cs)) (half del (drop (i + 1) cs)) t (get_or cs i d)
      (ap (λ l. change_each l t) (half_taken del cs i d within chosen) ∙ one_more (half del (take i cs)) (get_or cs i d) t u e ∙ ap (λ o. ok_or o (get_or cs i d)) s)

  pub step_last : (v : List Entry) → change_each (half del (take (i + 1) cs)) t ≡ Ok v → LastOf (half del (take i cs)) (get_or cs i d) t v
  step_last v e = last_of (half del (take i cs)) (get_or cs i d) t v (sym (ap (λ l. change_each l t) (half_taken del cs i d within chosen)) ∙ e)

  -- a step taken back
  pub step_undone : (v w : List Entry) (told : Bool) → IsInKeyOrder t → change_each (half del (take (i + 1) cs)) t ≡ Ok v
      → Tells told (change_one (record { entry = (get_or cs i d).entry; del = not (get_or cs i d).del }) v) v w
      → change_each (half del (take i cs)) t ≡ Ok w
  step_undone v w told order e tells =
      let last = step_last v e in
      let back = undone_one (get_or cs i d) last.before v (order_each (half del (take i cs)) t last.before last.first order) last.last in
      last.first ∙ ap (λ l. Ok l) (told_back told last.before back tells)
    where
      told_back : (b : Bool) (before : List Entry) → change_one (record { entry = (get_or cs i d).entry; del = not (get_or cs i d).del }) v ≡ Some before
          → Tells b (change_one (record { entry = (get_or cs i d).entry; del = not (get_or cs i d).del }) v) v w → before ≡ w
      told_back true before back tells = cc
      told_back false before back tells = let n = tells.0 in absurd (let k : ⊥ = cc in k)

-- ---- both halves
both_halves : (cs : List Change) (t m : List Entry) → change_each (deletions cs) t ≡ Ok m → apply_strictly t cs ≡ change_each (additions cs) m
both_halves cs t m e = each_append (deletions cs) (additions cs) t ∙ ap (and_then (change_each (additions cs))) e

pub halves_done : (cs : List Change) (t m n : List Entry) (r : Result (Unit {0}) Change) → change_each (deletions cs) t ≡ Ok m
    → Becomes r (change_each (additions cs) m) m n → is_err r ≡ false → Becomes r (apply_strictly t cs) t n
halves_done cs t m n (Ok done) e b ok = both_halves cs t m e ∙ b
halves_done cs t m n (Err c) e b ok = absurd (true≢false ok)

pub halves_failed : (cs : List Change) (t m n back : List Entry) (r : Result (Unit {0}) Change) → change_each (deletions cs) t ≡ Ok m
    → Becomes r (change_each (additions cs) m) m n → is_err r ≡ true → (change_each (deletions cs) t ≡ Ok n → back ≡ t) → Becomes r (apply_strictly t cs) t back
halves_failed cs t m n back (Ok done) e b failed undone = absurd (true≢false (sym failed))
halves_failed cs t m n back (Err c) e b failed undone = (both_halves cs t m e ∙ b.0, undone (e ∙ ap (λ l. Ok l) (sym b.1)))

pub half_failed : (cs : List Change) (t n : List Entry) (c : Change) → change_each (deletions cs) t ≡ Err c → n ≡ t → Becomes (Err c) (apply_strictly t cs) t n
half_failed cs t n c e same = (fails_on (deletions cs) (additions cs) t c e, same)

-- the entries between the halves
pub record Between (cs : List Change) (t u : List Entry) : Type 0 where
  pub middle : List Entry
  pub deleted : change_each (deletions cs) t ≡ Ok middle
  pub added : change_each (additions cs) middle ≡ Ok u

between_from : (cs : List Change) (t u : List Entry) (r : Result (List Entry) Change) → apply_strictly t cs ≡ Ok u → change_each (deletions cs) t ≡ r → Between cs t u
between_from cs t u (Ok m) e p = record { middle = m; deleted = p; added = sym (both_halves cs t m p) ∙ e }
between_from cs t u (Err c) e p = let h = fails_on (deletions cs) (additions cs) t c p in absurd (let k : ⊥ = cc in k)

pub between : (cs : List Change) (t u : List Entry) → apply_strictly t cs ≡ Ok u → Between cs t u
between cs t u e = between_from cs t u (change_each (deletions cs) t) e refl

pub halves_counted : (cs : List Change) → length (deletions cs) + length (additions cs) ≡ length cs
halves_counted [] = refl
halves_counted (c ∷ cs) =
    let n = halves_counted cs in
    elim c.del as (λ b. length (cond b (c ∷ deletions cs) (deletions cs)) + length (cond (not b) (c ∷ additions cs) (additions cs)) ≡ length (c ∷ cs)) [
      | true ↦ omega (arith, n)
      | false ↦ omega (arith, n)
    ]
