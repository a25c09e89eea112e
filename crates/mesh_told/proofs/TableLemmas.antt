-- The table of a node: the lines that are due by it are those of the definitions, and once they are told it is that of
-- all lines.
use Rattle.std.proofs.Common.{◌≡◌, ◌⊎◌, inl, inr, ℕ, ◌+◌, zero, suc, Bool, true, false, cond, ◌&&◌, ◌||◌, List, [], ◌∷◌, ◌++◌, map, filter_map, find, reverse, slice_get, take, Option, Some, None, IfSome, is_some, option_and_then, option_map, is_eq, refl, sym, ap, ap₂, ◌∙◌, subst, append_assoc, arith}
use mathlib.Core.List.{reverse-cons}
use Rattle.std.specs.List.{AllByRecursion, cons_option, list_any}
use Rattle.std.specs.List.Sorted.{IsStrictlySortedBy}
use Rattle.std.specs.Map.{keys_of, lookup}
use Rattle.std.specs.Option.{option_flatten}
use Rattle.std.specs.Ordering.{eq_by_cmp}
use Rattle.std.proofs.lemmas.Bool.{false≢true, true≢false}
use Rattle.mesh_base.specs.declared.address.Mac.{Mac}
use Rattle.mesh_model.specs.declared.route.OrigRow.{OrigRow}
use Rattle.mesh_model.specs.declared.route_line.RouteLine.{RouteLine}
use Rattle.mesh_model.specs.Loops.Routes.{next_of, tells_of}
use Rattle.mesh_model.specs.Net.Watching.{is_row_of, line_due, lines_due, looked_at, next_by, routed, same_next, told_of, told_with}
use Rattle.mesh_model.specs.Routes.Addresses.{mac_order, same_mac}
use Rattle.mesh_laws.proofs.KeyLists.{item_at, item_at_filter, sorted_filter}
use Rattle.mesh_laws.proofs.ListedInOrder.{row_at_value, rows_in_order}
use Rattle.mesh_laws.proofs.MacLemmas.{mac_exact, mac_total, same_by_order, same_equiv, same_exact, same_self}
use Rattle.mesh_told.specs.Told.{HasMet, Table, TableStands, entries_told, line_for, lines_in, next_at, next_in, seen_of}
use Rattle.mesh_told.specs.declared.node_routes.Seen.{Seen}
use Rattle.mesh_told.proofs.NextLemmas.{one_next, same_by_mac_order, unrouted, untold}

-- the originator of a line
abbrev orig_of : RouteLine → Mac
orig_of line = line.orig

any_none : (p : Mac → Bool) (xs ys : List Mac) → list_any p (xs ++ ys) ≡ false → (list_any p xs ≡ false) × (list_any p ys ≡ false)
any_none p [] ys none = (refl, none)
any_none p (x ∷ xs) ys none = go (any_none p xs ys) (p x) refl none
  where
    go : (list_any p (xs ++ ys) ≡ false → (list_any p xs ≡ false) × (list_any p ys ≡ false)) → (b : Bool) → p x ≡ b → (b || list_any p (xs ++ ys)) ≡ false → ((b || list_any p xs) ≡ false) × (list_any p ys ≡ false)
    go later true is none = absurd (true≢false none)
    go later false is none = later none

-- what is made of the item at a key is made of what is found there
item_row : (row : Mac → Option Mac → Option RouteLine) (q : Mac) (es : Table) → option_and_then (λ (e : Mac × Option Mac). row e.0 e.1) (item_at mac_order (λ (e : Mac × Option Mac). e.0) q es) ≡ option_and_then (row q) (lookup (same_mac q) es)
item_row row q [] = refl
item_row row q (e ∷ es) = go (item_row row q es) (same_mac q e.0) refl (same_by_order q e.0)
  where
    go : option_and_then (λ (d : Mac × Option Mac). row d.0 d.1) (item_at mac_order (λ (d : Mac × Option Mac). d.0) q es) ≡ option_and_then (row q) (lookup (same_mac q) es) → (b : Bool) → same_mac q e.0 ≡ b → is_eq (mac_order q e.0) ≡ same_mac q e.0
        → option_and_then (λ (d : Mac × Option Mac). row d.0 d.1) (cond (is_eq (mac_order q e.0)) (Some e) (item_at mac_order (λ (d : Mac × Option Mac). d.0) q es)) ≡ option_and_then (row q) (cond b (Some e.1) (lookup (same_mac q) es))
    go later true same is = ap (λ b. option_and_then (λ (d : Mac × Option Mac). row d.0 d.1) (cond b (Some e) (item_at mac_order (λ (d : Mac × Option Mac). d.0) q es))) (is ∙ same) ∙ ap (λ k. row k e.1) (sym (same_exact q e.0 same))
    go later false same is = ap (λ b. option_and_then (λ (d : Mac × Option Mac). row d.0 d.1) (cond b (Some e) (item_at mac_order (λ (d : Mac × Option Mac). d.0) q es))) (is ∙ same) ∙ later

module _ (now : ℕ) (node : Mac) (rows : List OrigRow) where
  -- ---- lines
  line_keeps : (orig : Mac) (told : Option Mac) → IfSome (line_for now node rows orig told) (λ line. line.orig ≡ orig)
  line_keeps orig told = go (same_next (next_by rows orig) told)
    where
      go : (b : Bool) → IfSome (cond b None (Some (record { moment = now; node = node; orig = orig; next = next_by rows orig }))) (λ (line : RouteLine). line.orig ≡ orig)
      go true = tt
      go false = refl

  module _ (told : List RouteLine) where
    abbrev values : List Mac
    values = routed rows ++ told_of node told

    abbrev due : Mac → Option RouteLine
    due = line_due now node rows told

    due_keeps : (orig : Mac) → IfSome (due orig) (λ line. line.orig ≡ orig)
    due_keeps orig = line_keeps orig (next_of told orig node)

    -- of others no line is due
    none_due : (orig : Mac) → list_any (eq_by_cmp mac_order orig) values ≡ false → due orig ≡ None
    none_due orig none =
        let parts = any_none (same_mac orig) (routed rows) (told_of node told) (ap (λ same. list_any (same orig) values) same_by_mac_order ∙ none) in
        ap₂ (λ a b. cond (same_next a b) None (Some (record { moment = now; node = node; orig = orig; next = next_by rows orig }))) (unrouted orig rows parts.0) (untold node orig told parts.1)

    -- the line that is due of an originator is among all
    due_among : (orig : Mac) → item_at mac_order orig_of orig (lines_due now node rows told) ≡ due orig
    due_among = row_at_value mac_total mac_exact orig_of due due_keeps values none_due

    -- ---- a table with all that have a route
    module _ (old table : Table) (seen : List Seen) (met : HasMet rows old table) (stands : TableStands node old seen told) where
      abbrev line_in : Mac × Option Mac → Option RouteLine
      line_in entry = line_for now node rows entry.0 entry.1

      rises : IsStrictlySortedBy mac_order (keys_of table)
      rises = met.rises stands.rises

      nexts : (orig : Mac) → next_in table orig ≡ next_of told orig node
      nexts orig = met.nexts orig ∙ stands.nexts orig

      not_there : (orig : Mac) → lookup (same_mac orig) table ≡ None → next_by rows orig ≡ None
      not_there orig none = go (list_any (same_mac orig) (routed rows)) refl
        where
          go : (b : Bool) → list_any (same_mac orig) (routed rows) ≡ b → next_by rows orig ≡ None
          go true is = absurd (false≢true (ap is_some (sym none) ∙ met.there orig is))
          go false is = unrouted orig rows is

      line_is : (orig : Mac) (o : Option (Option Mac)) → lookup (same_mac orig) table ≡ o → option_and_then (line_for now node rows orig) o ≡ due orig
      line_is orig None is =
          ap₂ (λ a b. cond (same_next a b) None (Some (record { moment = now; node = node; orig = orig; next = next_by rows orig }))) (sym (not_there orig is)) (sym (ap option_flatten is) ∙ nexts orig)
      line_is orig (Some last) is = ap (line_for now node rows orig) (sym (ap option_flatten is) ∙ nexts orig)

      -- its lines are those that are due
      pub lines_are : lines_in now node rows table ≡ lines_due now node rows told
      lines_are =
          rows_in_order mac_total mac_exact orig_of due due_keeps values none_due (filter_map line_in table)
          (sorted_filter mac_order (λ (e : Mac × Option Mac). e.0) orig_of line_in (λ e. line_keeps e.0 e.1) table rises)
          (λ orig.
          item_at_filter mac_order (λ (e : Mac × Option Mac). e.0) orig_of line_in (λ e. line_keeps e.0 e.1) mac_exact orig table rises
          ∙ item_row (line_for now node rows) orig table
          ∙ line_is orig (lookup (same_mac orig) table) refl)

      keys_told : (es : Table) → keys_of (entries_told rows es) ≡ keys_of es
      keys_told [] = refl
      keys_told (e ∷ es) = ap (λ ks. e.0 ∷ ks) (keys_told es)

      found_told : (orig : Mac) (es : Table) → lookup (same_mac orig) (entries_told rows es) ≡ cond (is_some (lookup (same_mac orig) es)) (Some (next_by rows orig)) None
      found_told orig [] = refl
      found_told orig (e ∷ es) = go (found_told orig es) (same_mac orig e.0) refl
        where
          go : lookup (same_mac orig) (entries_told rows es) ≡ cond (is_some (lookup (same_mac orig) es)) (Some (next_by rows orig)) None → (b : Bool) → same_mac orig e.0 ≡ b → cond b (Some (next_by rows e.0)) (lookup (same_mac orig) (entries_told rows es)) ≡ cond (is_some (cond b (Some e.1) (lookup (same_mac orig) es))) (Some (next_by rows orig)) None
          go later true same = ap (λ k. Some (next_by rows k)) (sym (same_exact orig e.0 same))
          go later false same = later

      -- once they are told, each has its next node
      told_next : (orig : Mac) → next_in (entries_told rows table) orig ≡ next_by rows orig
      told_next orig = ap option_flatten (found_told orig table) ∙ go (lookup (same_mac orig) table) refl
        where
          go : (o : Option (Option Mac)) → lookup (same_mac orig) table ≡ o → option_flatten (cond (is_some o) (Some (next_by rows orig)) None) ≡ next_by rows orig
          go None is = sym (not_there orig is)
          go (Some last) is = refl

-- ---- lines behind others
told_cons : (told : List RouteLine) (line : RouteLine) (rest : List RouteLine) → told_with told (line ∷ rest) ≡ told_with (line ∷ told) rest
told_cons told line rest = ap (λ ls. ls ++ told) (reverse-cons line rest) ∙ append_assoc (reverse rest) (line ∷ []) told

module _ (node : Mac) (rows : List OrigRow) where
  -- a line of the node tells the next node by the rows
  abbrev IsTold : RouteLine → Type 0
  IsTold line = (line.node ≡ node) × (line.next ≡ next_by rows line.orig)

  -- lines of a node tell nothing of another
  others : (other orig : Mac) → same_mac node other ≡ false → (told lines : List RouteLine) → AllByRecursion IsTold lines → next_of (told_with told lines) orig other ≡ next_of told orig other
  others other orig apart told [] all = refl
  others other orig apart told (line ∷ rest) all =
      let away : same_mac line.node other ≡ false = ap (λ n. same_mac n other) all.0.0 ∙ apart in
      ap (λ ls. next_of ls orig other) (told_cons told line rest) ∙ others other orig apart (line ∷ told) rest all.1
      ∙ go (same_mac line.orig orig) (same_mac line.node other) away
    where
      go : (o n : Bool) → n ≡ false → option_and_then (λ (l : RouteLine). l.next) (cond (o && n) (Some line) (find (tells_of orig other) told)) ≡ next_of told orig other
      go true n away = ap (λ b. option_and_then (λ (l : RouteLine). l.next) (cond b (Some line) (find (tells_of orig other) told))) away
      go false n away = refl

  -- where a line among them tells of an originator, or the lines before told it, the next node is by the rows
  abbrev HasNext : Mac → List RouteLine → List RouteLine → Type 0
  HasNext orig told lines = (next_of told orig node ≡ next_by rows orig) ⊎ ((line : RouteLine) × (item_at mac_order orig_of orig lines ≡ Some line))

  pub own : (orig : Mac) (told lines : List RouteLine) → AllByRecursion IsTold lines → HasNext orig told lines → next_of (told_with told lines) orig node ≡ next_by rows orig
  own orig told [] all (inl is) = is
  own orig told [] all (inr found) = let none = found.1 in cc
  own orig told (line ∷ rest) all has = ap (λ ls. next_of ls orig node) (told_cons told line rest) ∙ own orig (line ∷ told) rest all.1 (go (same_mac orig line.orig) refl has)
    where
      here : same_mac line.node node ≡ true
      here = ap (λ n. same_mac n node) all.0.0 ∙ same_self node

      next_is : (b : Bool) → same_mac orig line.orig ≡ b → next_of (line ∷ told) orig node ≡ cond b line.next (next_of told orig node)
      next_is b same = ap₂ (λ o n. option_and_then (λ (l : RouteLine). l.next) (cond (o && n) (Some line) (find (tells_of orig node) told))) (same_equiv.symm line.orig orig ∙ same) here ∙ by b
        where
          by : (b : Bool) → option_and_then (λ (l : RouteLine). l.next) (cond (b && true) (Some line) (find (tells_of orig node) told)) ≡ cond b line.next (next_of told orig node)
          by true = refl
          by false = refl

      go : (b : Bool) → same_mac orig line.orig ≡ b → HasNext orig told (line ∷ rest) → HasNext orig (line ∷ told) rest
      go true same has = inl (next_is true same ∙ all.0.1 ∙ ap (next_by rows) (sym (same_exact orig line.orig same)))
      go false same (inl is) = inl (next_is false same ∙ is)
      go false same (inr found) = inr (found.0, ap (λ b. cond b (Some line) (item_at mac_order orig_of orig rest)) (sym (same_by_order orig line.orig ∙ same)) ∙ found.1)

  all_told : (now : ℕ) (told : List RouteLine) (origs : List Mac) → AllByRecursion IsTold (filter_map (line_due now node rows told) origs)
  all_told now told [] = tt
  all_told now told (orig ∷ origs) = go (all_told now told origs) (same_next (next_by rows orig) (next_of told orig node))
    where
      go : AllByRecursion IsTold (filter_map (line_due now node rows told) origs) → (b : Bool) → AllByRecursion IsTold (cons_option (cond b None (Some (record { moment = now; node = node; orig = orig; next = next_by rows orig }))) (filter_map (line_due now node rows told) origs))
      go later true = later
      go later false = ((refl, refl), later)

  -- behind the lines that are due, the last line of each originator tells the next node by the rows
  pub next_told : (now : ℕ) (told : List RouteLine) (orig : Mac) → next_of (told_with told (lines_due now node rows told)) orig node ≡ next_by rows orig
  next_told now told orig = own orig told (lines_due now node rows told) (all_told now told (looked_at node rows told)) (go (same_next (next_by rows orig) (next_of told orig node)) refl)
    where
      go : (b : Bool) → same_next (next_by rows orig) (next_of told orig node) ≡ b → HasNext orig told (lines_due now node rows told)
      go true same = inl (sym (one_next (next_by rows orig) (next_of told orig node) same))
      go false same = inr (
        record { moment = now; node = node; orig = orig; next = next_by rows orig },
        due_among now node rows told orig ∙ ap (λ b. cond b None (Some (record { moment = now; node = node; orig = orig; next = next_by rows orig }))) same,
      )

  -- the table of another node stays
  pub elsewhere : (now : ℕ) (told : List RouteLine) (other : Mac) (table : Table) (seen : List Seen) → same_mac node other ≡ false → TableStands other table seen told
      → TableStands other table seen (told_with told (lines_due now node rows told))
  elsewhere now told other table seen apart stands = record {
    rises = stands.rises;
    nexts = λ orig. stands.nexts orig ∙ same orig;
    lasts = λ orig. stands.lasts orig ∙ same orig;
  }
    where
      same : (orig : Mac) → next_of told orig other ≡ next_of (told_with told (lines_due now node rows told)) orig other
      same orig = sym (others other orig apart told (lines_due now node rows told) (all_told now told (looked_at node rows told)))

-- the next nodes of live originators that are kept are those of the rows
next_of_seen : (orig : Mac) (rows : List OrigRow) → next_at (map seen_of rows) orig ≡ next_by rows orig
next_of_seen orig [] = refl
next_of_seen orig (row ∷ rows) = go (next_of_seen orig rows) (same_mac row.orig orig)
  where
    go : next_at (map seen_of rows) orig ≡ next_by rows orig → (b : Bool)
        → option_and_then (λ (s : Seen). s.next) (cond b (Some (seen_of row)) (find (λ (s : Seen). same_mac s.orig orig) (map seen_of rows))) ≡ option_and_then (λ (r : OrigRow). r.next) (cond b (Some row) (find (is_row_of orig) rows))
    go later true = refl
    go later false = later

-- the table that has met the rows, once its lines are told
pub tells_all : (now : ℕ) (node : Mac) (rows : List OrigRow) (told : List RouteLine) (old table : Table) (seen : List Seen) → HasMet rows old table → TableStands node old seen told
    → TableStands node (entries_told rows table) (map seen_of rows) (told_with told (lines_due now node rows told))
tells_all now node rows told old table seen met stands = record {
  rises = subst (IsStrictlySortedBy mac_order) (sym (keys_told now node rows told old table seen met stands table)) (met.rises stands.rises);
  nexts = λ orig. told_next now node rows told old table seen met stands orig ∙ sym (next_told node rows now told orig);
  lasts = λ orig. next_of_seen orig rows ∙ sym (next_told node rows now told orig);
}

-- ---- rows by which lines were told already
same_as_itself : (next : Option Mac) → same_next next next ≡ true
same_as_itself None = refl
same_as_itself (Some next) = same_self next

-- no line is due by rows of the same live originators and next nodes as those of the last lines
pub none_are_due : (now : ℕ) (node : Mac) (rows : List OrigRow) (told : List RouteLine) (table : Table) (seen : List Seen) → seen ≡ map seen_of rows → TableStands node table seen told → lines_due now node rows told ≡ []
none_are_due now node rows told table seen is stands = go (looked_at node rows told)
  where
    none : (orig : Mac) → line_due now node rows told orig ≡ None
    none orig =
        let next : next_by rows orig ≡ next_of told orig node = sym (next_of_seen orig rows) ∙ ap (λ ss. next_at ss orig) (sym is) ∙ stands.lasts orig in
        ap (λ b. cond b None (Some (record { moment = now; node = node; orig = orig; next = next_by rows orig }))) (ap (same_next (next_by rows orig)) (sym next) ∙ same_as_itself (next_by rows orig))

    go : (origs : List Mac) → filter_map (line_due now node rows told) origs ≡ []
    go [] = refl
    go (orig ∷ origs) = ap (λ o. cons_option o (filter_map (line_due now node rows told) origs)) (none orig) ∙ go origs

-- what is kept of a row more
one_more : (seen : List Seen) (rows : List OrigRow) (place : ℕ) → take place seen ≡ map seen_of (take place rows) → slice_get seen place ≡ option_map seen_of (slice_get rows place)
    → take (suc place) seen ≡ map seen_of (take (suc place) rows)
one_more [] [] place front there = refl
one_more [] (first ∷ rows) zero front there = let bad : ◌≡◌ {A = Option Seen} None (Some (seen_of first)) = there in cc
one_more [] (first ∷ rows) (suc place) front there = let bad : ◌≡◌ {A = List Seen} [] (seen_of first ∷ map seen_of (take place rows)) = front in cc
one_more (e ∷ seen) [] zero front there = let bad : ◌≡◌ {A = Option Seen} (Some e) None = there in cc
one_more (e ∷ seen) [] (suc place) front there = let bad : ◌≡◌ {A = List Seen} (e ∷ take place seen) [] = front in cc
one_more (e ∷ seen) (first ∷ rows) zero front there = let same : e ≡ seen_of first = cc in ap (λ d. d ∷ []) same
one_more (e ∷ seen) (first ∷ rows) (suc place) front there =
    let head : e ≡ seen_of first = cc in
    let tail : take place seen ≡ map seen_of (take place rows) = cc in
    ap₂ (λ d es. d ∷ es) head (one_more seen rows place tail there)

pub one_more_seen : (seen : List Seen) (rows : List OrigRow) (place : ℕ) → take place seen ≡ map seen_of (take place rows) → slice_get seen place ≡ option_map seen_of (slice_get rows place)
    → take (place + 1) seen ≡ map seen_of (take (place + 1) rows)
one_more_seen seen rows place front there =
    let on : place + 1 ≡ suc place = omega arith in
    subst (λ n. take n seen ≡ map seen_of (take n rows)) (sym on) (one_more seen rows place front there)
