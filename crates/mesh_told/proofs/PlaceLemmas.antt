-- The entry at a place of a table: it is found there, written there, and told in its turn.
use Rattle.std.proofs.Common.{◌≡◌, ℕ, suc, ◌+◌, ◌<◌, Bool, true, false, cond, List, [], ◌∷◌, ◌++◌, length, map, get_or, take, drop, slice_get, Option, Some, None, refl, sym, ap, ap₂, ◌∙◌, append_assoc, length-take, arith}
use Rattle.std.specs.List.{cons_option}
use Rattle.std.specs.Option.{option_map_or}
use Rattle.std.proofs.lemmas.List.{take_more, drop_more}
use Rattle.indexmap.specs.IndexMap.{set_value_at}
use Rattle.mesh_base.specs.declared.address.Mac.{Mac}
use Rattle.mesh_base.specs.declared.event.Event.{Event}
use Rattle.mesh_model.specs.declared.route.OrigRow.{OrigRow}
use Rattle.mesh_model.specs.declared.route_line.RouteLine.{RouteLine}
use Rattle.mesh_model.specs.Net.Watching.{next_by, route_event, same_next}
use Rattle.mesh_told.specs.Told.{Table, entries_told, events_for, line_for, lines_in}
use Rattle.mesh_told.proofs.NextLemmas.{one_next}

-- ---- lines
module _ (now : ℕ) (node : Mac) (rows : List OrigRow) (orig : Mac) where
  abbrev made : RouteLine
  made = record { moment = now; node = node; orig = orig; next = next_by rows orig }

  -- where no line is due, the next node stays
  pub none_due_same : (told : Option Mac) → line_for now node rows orig told ≡ None → told ≡ next_by rows orig
  none_due_same told none = go (same_next (next_by rows orig) told) refl none
    where
      go : (b : Bool) → same_next (next_by rows orig) told ≡ b → cond b None (Some made) ≡ None → told ≡ next_by rows orig
      go true same none = sym (one_next (next_by rows orig) told same)
      go false same none = let bad : Some made ≡ None = none in cc

  -- a line that is due tells the next node
  pub due_next : (told : Option Mac) (line : RouteLine) → line_for now node rows orig told ≡ Some line → line.next ≡ next_by rows orig
  due_next told line is = go (same_next (next_by rows orig) told) is
    where
      go : (b : Bool) → cond b None (Some made) ≡ Some line → line.next ≡ next_by rows orig
      go true is = let bad : ◌≡◌ {A = Option RouteLine} None (Some line) = is in cc
      go false is = let same : made ≡ line = cc in ap (λ (l : RouteLine). l.next) (sym same)

  pub no_events : (told : Option Mac) → line_for now node rows orig told ≡ None → events_for now node rows orig told ≡ []
  no_events told none = ap (λ o. option_map_or (λ line. route_event line ∷ []) o []) none

  pub one_event : (told : Option Mac) (line : RouteLine) → line_for now node rows orig told ≡ Some line → events_for now node rows orig told ≡ route_event line ∷ []
  one_event told line is = ap (λ o. option_map_or (λ l. route_event l ∷ []) o []) is

-- ---- a place
get_at : (front back : Table) (e : Mac × Option Mac) → slice_get (front ++ e ∷ back) (length front) ≡ Some e
get_at [] back e = refl
get_at (x ∷ front) back e = get_at front back e

one_entry : (a b : Mac × Option Mac) → ◌≡◌ {A = Option (Mac × Option Mac)} (Some a) (Some b) → a ≡ b
one_entry a b e = cc

pub at_place : (entries front back : Table) (e found : Mac × Option Mac) (place : ℕ) → entries ≡ front ++ e ∷ back → length front ≡ place → slice_get entries place ≡ Some found → e ≡ found
at_place entries front back e found place is at got =
    one_entry e found (sym (get_at front back e) ∙ ap₂ slice_get (sym is) at ∙ got)

set_at : (front back : Table) (orig : Mac) (told next : Option Mac) → set_value_at (front ++ (orig, told) ∷ back) (length front) next ≡ front ++ (orig, next) ∷ back
set_at [] back orig told next = refl
set_at (x ∷ front) back orig told next = ap (λ es. x ∷ es) (set_at front back orig told next)

pub set_place : (entries front back : Table) (orig : Mac) (told next wanted : Option Mac) (place : ℕ) → entries ≡ front ++ (orig, told) ∷ back → length front ≡ place → next ≡ wanted → set_value_at entries place next ≡ front ++ (orig, wanted) ∷ back
set_place entries front back orig told next wanted place is at same =
    ap₂ (λ (es : Table) (i : ℕ). set_value_at es i next) is (sym at) ∙ set_at front back orig told next ∙ ap (λ n. front ++ (orig, n) ∷ back) same

-- ---- one place after another
abbrev pub some_entry : Mac × Option Mac
some_entry = (record { 0 = [] }, None)

told_both : (rows : List OrigRow) (xs ys : Table) → entries_told rows (xs ++ ys) ≡ entries_told rows xs ++ entries_told rows ys
told_both rows [] ys = refl
told_both rows (x ∷ xs) ys = ap (λ es. (x.0, next_by rows x.0) ∷ es) (told_both rows xs ys)

told_long : (rows : List OrigRow) (xs : Table) → length (entries_told rows xs) ≡ length xs
told_long rows [] = refl
told_long rows (x ∷ xs) = ap suc (told_long rows xs)

module _ (now : ℕ) (node : Mac) (rows : List OrigRow) where
  lines_more : (xs : Table) (e : Mac × Option Mac) → map route_event (lines_in now node rows (xs ++ e ∷ [])) ≡ map route_event (lines_in now node rows xs) ++ events_for now node rows e.0 e.1
  lines_more [] e = go (line_for now node rows e.0 e.1)
    where
      go : (o : Option RouteLine) → map route_event (cons_option o []) ≡ option_map_or (λ line. route_event line ∷ []) o []
      go None = refl
      go (Some line) = refl
  lines_more (x ∷ xs) e = go (lines_more xs e) (line_for now node rows x.0 x.1)
    where
      go : map route_event (lines_in now node rows (xs ++ e ∷ [])) ≡ map route_event (lines_in now node rows xs) ++ events_for now node rows e.0 e.1 → (o : Option RouteLine)
          → map route_event (cons_option o (lines_in now node rows (xs ++ e ∷ []))) ≡ map route_event (cons_option o (lines_in now node rows xs)) ++ events_for now node rows e.0 e.1
      go later None = later
      go later (Some line) = ap (λ es. route_event line ∷ es) later

  module _ (table : Table) (place : ℕ) (low : place < length table) where
    abbrev pub entry : Mac × Option Mac
    entry = get_or table place some_entry

    abbrev pub front : Table
    front = entries_told rows (take place table)

    abbrev pub back : Table
    back = drop (place + 1) table

    pub split_here : (mid : Table) → mid ≡ front ++ drop place table → mid ≡ front ++ (entry.0, entry.1) ∷ back
    split_here mid is = is ∙ ap (λ es. front ++ es) (drop_more table place some_entry low)

    pub long_front : length front ≡ place
    long_front = told_long rows (take place table) ∙ omega (arith, length-take place table, low)

    pub set_here : front ++ (entry.0, next_by rows entry.0) ∷ back ≡ entries_told rows (take (place + 1) table) ++ drop (place + 1) table
    set_here =
        sym (append_assoc front ((entry.0, next_by rows entry.0) ∷ []) back)
        ∙ ap (λ es. es ++ back) (sym (told_both rows (take place table) (entry ∷ [])) ∙ ap (entries_told rows) (sym (take_more table place some_entry low)))

    pub told_here : (before mid after : List Event) → mid ≡ before ++ map route_event (lines_in now node rows (take place table)) → after ≡ mid ++ events_for now node rows entry.0 entry.1
        → after ≡ before ++ map route_event (lines_in now node rows (take (place + 1) table))
    told_here before mid after is next =
        next ∙ ap (λ es. es ++ events_for now node rows entry.0 entry.1) is
        ∙ append_assoc before (map route_event (lines_in now node rows (take place table))) (events_for now node rows entry.0 entry.1)
        ∙ ap (λ es. before ++ es) (sym (lines_more (take place table) entry) ∙ ap (λ es. map route_event (lines_in now node rows es)) (sym (take_more table place some_entry low)))
