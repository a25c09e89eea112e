-- The loops that are found in what is kept of calls: those before that are gone, and those that are new.
use Rattle.std.proofs.Common.{◌≡◌, Bool, true, false, cond, ◌&&◌, not, List, [], ◌∷◌, length, map, map-id, filter_map, find, Option, Some, None, IfSome, option_and_then, refl, sym, ap, ◌∙◌, subst}
use Rattle.std.proofs.Math.Path.{fun_ext}
use Rattle.std.specs.Bool.{Decides}
use Rattle.std.specs.List.{list_any}
use Rattle.std.specs.List.Sorted.{IsStrictlySortedBy}
use Rattle.std.specs.Option.{option_eq}
use Rattle.std.proofs.lemmas.Bool.{false≢true, true≢false}
use Rattle.std.proofs.lemmas.Map.Entries.{option_filter}
use Rattle.std.proofs.lemmas.Map.Made.{find_same}
use Rattle.mesh_base.specs.declared.address.Mac.{Mac}
use Rattle.mesh_model.specs.declared.route_line.RouteLine.{RouteLine}
use Rattle.mesh_model.specs.declared.route_line.RoutePair.{RoutePair}
use Rattle.mesh_model.specs.declared.route_loop.Loop.{Loop}
use Rattle.mesh_model.specs.Loops.Reports.{gone_from, has_loop}
use Rattle.mesh_model.specs.Loops.Routes.{has_pair, if_least, is_least_of, loop_at, loop_from, loops_of, next_of, pair_of_line, pair_order, pairs_of, same_pair}
use Rattle.mesh_model.specs.Routes.Addresses.{same_mac}
use Rattle.mesh_laws.proofs.KeyLists.{item_at, item_at_filter, sorted_filter}
use Rattle.mesh_laws.proofs.ListedInOrder.{rows_in_order}
use Rattle.mesh_laws.proofs.MacLemmas.{same_exact, same_self}
use Rattle.mesh_loops.specs.declared.when.When.{When}
use Rattle.mesh_loops.specs.declared.when.When.TheVariants.{Before, Now}
use Rattle.mesh_loops.specs.Changed.{changed_loop, changed_loops, found_from, has_changed, have_changed, if_changed, loop_with, nexts_at, pair_of}
use Rattle.mesh_loops.specs.Watch.{Kept, WatchCall, WatchStands, lines_at, next_at, other}
use Rattle.mesh_loops.specs.Walks.{Leads}
use Rattle.mesh_loops.proofs.LoopLemmas.{HasRoom, IsLoopAt, at_is, at_known, filter_made, is_at, is_made, leads_alike, none_changed, room_kept, room_of_lines, same_room, was_made}
use Rattle.mesh_loops.proofs.PairLemmas.{has_line, pair_equiv, pair_exact, pair_same, pair_total, same_by_pair_order}
use Rattle.mesh_loops.proofs.WalkLemmas.{Walked, walked}

-- ---- what has changed
one_next : (a b : Option Mac) → not (option_eq same_mac a b) ≡ false → a ≡ b
one_next None None same = refl
one_next None (Some y) same = absurd (true≢false same)
one_next (Some x) None same = absurd (true≢false same)
one_next (Some x) (Some y) same = ap (λ n. Some n) (same_exact x y (go (same_mac x y) same))
  where
    go : (b : Bool) → not b ≡ false → b ≡ true
    go true e = refl
    go false e = absurd (true≢false e)

itself : (a : Option Mac) → not (option_eq same_mac a a) ≡ false
itself None = refl
itself (Some x) = ap not (same_self x)

-- what hasn't changed has one next node before and now
pub unchanged : (kept : Kept) (when : When) (pair : RoutePair) → has_changed kept pair ≡ false → next_at kept when pair ≡ next_at kept (other when) pair
unchanged kept Before pair same = one_next (next_at kept Before pair) (next_at kept Now pair) same
unchanged kept Now pair same = sym (one_next (next_at kept Before pair) (next_at kept Now pair) same)

pub not_changed : (kept : Kept) (when : When) (pair : RoutePair) → next_at kept when pair ≡ next_at kept (other when) pair → has_changed kept pair ≡ false
not_changed kept Before pair same = subst (λ o. not (option_eq same_mac (next_at kept Before pair) o) ≡ false) same (itself (next_at kept Before pair))
not_changed kept Now pair same = subst (λ o. not (option_eq same_mac o (next_at kept Now pair)) ≡ false) same (itself (next_at kept Now pair))

-- ---- the pair with which a loop begins
abbrev first_node : List Mac → Mac
first_node [] = record { 0 = [] }
first_node (node ∷ rest) = node

abbrev key : Loop → RoutePair
key l = pair_of l.orig (first_node l.nodes)

pair_decides : (a b : RoutePair) → Decides (same_pair a b) (a ≡ b)
pair_decides a b = (pair_same a b, λ e. subst (λ p. same_pair a p ≡ true) e (pair_equiv.refl a))

-- ---- what is kept of calls
module _ (kept : Kept) (calls : List WatchCall) (stands : WatchStands kept calls) where
  nexts_are : (when : When) (orig : Mac) → nexts_at kept when orig ≡ next_of (lines_at calls when) orig
  nexts_are when orig = fun_ext (λ node. stands.nexts when (pair_of orig node))

  -- a loop is found in what is kept as in the lines
  found_is : (when : When) (pair : RoutePair) → loop_from (next_of (lines_at calls when) pair.orig) (length (pairs_of (lines_at calls when))) pair.node ≡ found_from kept when pair
  found_is when pair =
      same_room (next_of (lines_at calls when) pair.orig) (length (pairs_of (lines_at calls when))) (length kept.routes) (room_of_lines (lines_at calls when) pair.orig)
      (subst (λ next. HasRoom next (length kept.routes)) (nexts_are when pair.orig) (room_kept kept stands.among when pair.orig)) pair.node
      ∙ ap (λ next. loop_from next (length kept.routes) pair.node) (sym (nexts_are when pair.orig))

  module _ (when : When) (pair : RoutePair) where
    abbrev there : List RouteLine
    there = lines_at calls when

    abbrev elsewhere : List RouteLine
    elsewhere = lines_at calls (other when)

    abbrev changed : Mac → Bool
    changed node = has_changed kept (pair_of pair.orig node)

    abbrev of_nodes : List Mac → Loop
    of_nodes nodes = loop_with pair.orig nodes

    same_next : (node : Mac) → changed node ≡ false → next_of there pair.orig node ≡ next_of elsewhere pair.orig node
    same_next node same =
        sym (stands.nexts when (pair_of pair.orig node)) ∙ unchanged kept when (pair_of pair.orig node) same ∙ stands.nexts (other when) (pair_of pair.orig node)

    next_same : (node : Mac) → next_of there pair.orig node ≡ next_of elsewhere pair.orig node → changed node ≡ false
    next_same node same =
        not_changed kept when (pair_of pair.orig node) (stands.nexts when (pair_of pair.orig node) ∙ same ∙ sym (stands.nexts (other when) (pair_of pair.orig node)))

    -- a loop is none of the others exactly where one of its nodes has changed
    module _ (rest : List Mac) (leads : Leads (next_of there pair.orig) pair.node pair.node rest) (least : is_least_of (pair.node ∷ rest) pair.node ≡ true) where
      abbrev it : Loop
      it = record { orig = pair.orig; nodes = pair.node ∷ rest }

      stays : list_any changed (pair.node ∷ rest) ≡ false → has_loop (loops_of elsewhere) it ≡ true
      stays none =
          let alike = leads_alike (next_of there pair.orig) (next_of elsewhere pair.orig) changed same_next pair.node pair.node rest leads none in
          is_made (loop_at elsewhere) (pairs_of elsewhere) pair it (at_known elsewhere pair rest alike) pair_same (at_is elsewhere pair rest alike least)

      was : (found : RoutePair) → IsLoopAt elsewhere found it → list_any changed (pair.node ∷ rest) ≡ false
      was found at =
          let orig : found.orig ≡ pair.orig = ap (λ (l : Loop). l.orig) (sym at.is) in
          let nodes : found.node ∷ at.rest ≡ pair.node ∷ rest = ap (λ (l : Loop). l.nodes) (sym at.is) in
          let node : found.node ≡ pair.node = cc in
          let further : at.rest ≡ rest = cc in
          let by_orig : Leads (next_of elsewhere pair.orig) found.node found.node at.rest = subst (λ o. Leads (next_of elsewhere o) found.node found.node at.rest) orig at.leads in
          let by_node : Leads (next_of elsewhere pair.orig) pair.node pair.node at.rest = subst (λ n. Leads (next_of elsewhere pair.orig) n n at.rest) node by_orig in
          let alike : Leads (next_of elsewhere pair.orig) pair.node pair.node rest = subst (λ r. Leads (next_of elsewhere pair.orig) pair.node pair.node r) further by_node in
          none_changed (next_of there pair.orig) (next_of elsewhere pair.orig) changed next_same pair.node pair.node rest leads alike

      is_new : not (has_loop (loops_of elsewhere) it) ≡ list_any changed (pair.node ∷ rest)
      is_new = go (list_any changed (pair.node ∷ rest)) refl (has_loop (loops_of elsewhere) it) refl
        where
          go : (b : Bool) → list_any changed (pair.node ∷ rest) ≡ b → (h : Bool) → has_loop (loops_of elsewhere) it ≡ h → not h ≡ b
          go false none h has = ap not (sym has ∙ stays none)
          go true some false has = refl
          go true some true has =
              let made = was_made (loop_at elsewhere) (pairs_of elsewhere) it has in
              sym (was made.pair (is_at elsewhere made.pair it made.is)) ∙ some

    -- what is left of a pair's loop is found in what is kept
    pub changed_is : option_filter (λ l. not (has_loop (loops_of elsewhere) l)) (loop_at there pair) ≡ changed_loop kept when pair
    changed_is = go (loop_from (next_of there pair.orig) (length (pairs_of there)) pair.node) refl ∙ ap (option_and_then (if_changed kept pair)) (found_is when pair)
      where
        by_least : (nodes : List Mac) → Walked (next_of there pair.orig) pair.node (length (pairs_of there)) pair.node nodes → (b : Bool) → is_least_of nodes pair.node ≡ b
            → option_filter (λ l. not (has_loop (loops_of elsewhere) l)) (cond b (Some (of_nodes nodes)) None) ≡ cond (b && have_changed kept pair.orig nodes) (Some (of_nodes nodes)) None
        by_least nodes way false least = refl
        by_least nodes way true least =
            subst (λ ns. cond (not (has_loop (loops_of elsewhere) (of_nodes ns))) (Some (of_nodes ns)) None ≡ cond (have_changed kept pair.orig ns) (Some (of_nodes ns)) None) (sym way.begins)
            (ap (λ b. cond b (Some (of_nodes (pair.node ∷ way.rest))) None) (is_new way.rest way.leads (subst (λ ns. is_least_of ns pair.node ≡ true) way.begins least)))

        go : (o : Option (List Mac)) → loop_from (next_of there pair.orig) (length (pairs_of there)) pair.node ≡ o
            → option_filter (λ l. not (has_loop (loops_of elsewhere) l)) (option_and_then (if_least pair) o) ≡ option_and_then (if_changed kept pair) o
        go None is = refl
        go (Some nodes) is = by_least nodes (walked (next_of there pair.orig) pair.node (length (pairs_of there)) pair.node nodes is) (is_least_of nodes pair.node) refl

    -- it begins with the pair
    keeps_pair : IfSome (changed_loop kept when pair) (λ l. key l ≡ pair)
    keeps_pair = go (found_from kept when pair) refl
      where
        by_changed : (nodes : List Mac) → Walked (nexts_at kept when pair.orig) pair.node (length kept.routes) pair.node nodes → (b : Bool) → IfSome (cond b (Some (of_nodes nodes)) None) (λ l. key l ≡ pair)
        by_changed nodes way true = ap (λ ns. key (of_nodes ns)) way.begins
        by_changed nodes way false = tt

        go : (o : Option (List Mac)) → found_from kept when pair ≡ o → IfSome (option_and_then (if_changed kept pair) o) (λ l. key l ≡ pair)
        go None is = tt
        go (Some nodes) is =
            by_changed nodes (walked (nexts_at kept when pair.orig) pair.node (length kept.routes) pair.node nodes is) (is_least_of nodes pair.node && have_changed kept pair.orig nodes)

    -- there is none of a pair of which no line tells
    none_untold : has_pair there pair ≡ false → changed_loop kept when pair ≡ None
    none_untold untold = sym changed_is ∙ ap (option_filter (λ l. not (has_loop (loops_of elsewhere) l))) (go (loop_at there pair) refl)
      where
        go : (o : Option Loop) → loop_at there pair ≡ o → o ≡ None
        go None is = refl
        go (Some l) is =
            let at = is_at there pair l is in
            absurd (false≢true (sym untold ∙ at_known there pair at.rest at.leads))

  -- the loops that are none of the others are found from the pairs that begin one, in order
  module _ (when : When) (heads : List RoutePair) (rise : IsStrictlySortedBy pair_order heads)
      (complete : (pair : RoutePair) → list_any (same_pair pair) heads ≡ false → changed_loop kept when pair ≡ None) where
    abbrev row : RoutePair → Option Loop
    row pair = changed_loop kept when pair

    at_head : (pair : RoutePair) → item_at pair_order key pair (filter_map row heads) ≡ row pair
    at_head pair =
        item_at_filter pair_order (λ (p : RoutePair). p) key row (keeps_pair when) pair_exact pair heads (subst (IsStrictlySortedBy pair_order) (sym (map-id _)) rise)
        ∙ ap (λ same. option_and_then row (find (same pair) heads)) (sym same_by_pair_order)
        ∙ ap (option_and_then row) (find_same pair_decides pair heads)
        ∙ go (list_any (same_pair pair) heads) refl
      where
        go : (b : Bool) → list_any (same_pair pair) heads ≡ b → option_and_then row (cond b (Some pair) None) ≡ row pair
        go true is = refl
        go false is = sym (complete pair is)

    pub found_loops : changed_loops kept when heads ≡ gone_from (loops_of (lines_at calls when)) (loops_of (lines_at calls (other when)))
    found_loops =
        rows_in_order pair_total pair_exact key row (keeps_pair when) (map pair_of_line (lines_at calls when))
        (λ pair untold. none_untold when pair (has_line (lines_at calls when) pair ∙ ap (λ same. list_any (same pair) (map pair_of_line (lines_at calls when))) same_by_pair_order ∙ untold))
        (filter_map row heads)
        (sorted_filter pair_order (λ (p : RoutePair). p) key row (keeps_pair when) heads (subst (IsStrictlySortedBy pair_order) (sym (map-id _)) rise))
        at_head
        ∙ ap (λ made. filter_map made (pairs_of (lines_at calls when))) (fun_ext (λ pair. sym (changed_is when pair)))
        ∙ sym (filter_made (λ l. not (has_loop (loops_of (lines_at calls (other when))) l)) (loop_at (lines_at calls when)) (pairs_of (lines_at calls when)))
