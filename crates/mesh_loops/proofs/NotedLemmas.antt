-- The least nodes of loops that walks note, and that those of all loops of which a pair has changed are enough.
use Rattle.std.proofs.Common.{◌≡◌, Bool, true, false, cond, ◌||◌, ◌&&◌, not, List, [], ◌∷◌, length, Option, Some, None, option_and_then, refl, sym, ap, ◌∙◌, subst}
use Rattle.std.specs.List.{best_of, list_any}
use Rattle.std.proofs.lemmas.Bool.{false≢true}
use Rattle.mesh_base.specs.declared.address.Mac.{Mac}
use Rattle.mesh_model.specs.declared.route_line.RoutePair.{RoutePair}
use Rattle.mesh_model.specs.Loops.Routes.{is_least_of, same_pair}
use Rattle.mesh_model.specs.Routes.Addresses.{is_smaller, same_mac}
use Rattle.mesh_laws.proofs.MacLemmas.{same_self}
use Rattle.mesh_loops.specs.declared.when.When.{When}
use Rattle.mesh_loops.specs.Changed.{changed_loop, found_from, has_changed, have_changed, if_changed, loop_with, nexts_at, pair_of}
use Rattle.mesh_loops.specs.Walks.{AreAmong, HasHead, IsNoted}
use Rattle.mesh_loops.specs.Watch.{AreKept, Kept}
use Rattle.mesh_loops.proofs.HeadLemmas.{best_among, best_is_least, both, head_along, one_least}
use Rattle.mesh_loops.proofs.LoopLemmas.{room_kept}
use Rattle.mesh_loops.proofs.PairLemmas.{pair_equiv}
use Rattle.mesh_loops.proofs.WalkLemmas.{Walked, is_walked, walked}

-- a node of a list that passes a test
record Passes (test : Mac → Bool) (nodes : List Mac) : Type 0 where
  node : Mac
  among : list_any (same_mac node) nodes ≡ true
  passes : test node ≡ true

one_passes : (test : Mac → Bool) (nodes : List Mac) → list_any test nodes ≡ true → Passes test nodes
one_passes test [] some = absurd (false≢true some)
one_passes test (x ∷ nodes) some = go (one_passes test nodes) (test x) refl some
  where
    behind : (a b : Bool) → b ≡ true → (a || b) ≡ true
    behind true b e = refl
    behind false b e = e

    go : (list_any test nodes ≡ true → Passes test nodes) → (b : Bool) → test x ≡ b → (b || list_any test nodes) ≡ true → Passes test (x ∷ nodes)
    go further true is some = record { node = x; among = ap (λ b. b || list_any (same_mac x) nodes) (same_self x); passes = is }
    go further false is some =
        let found = further some in
        record { node = found.node; among = behind (same_mac found.node x) (list_any (same_mac found.node) nodes) found.among; passes = found.passes }

module _ (kept : Kept) (when : When) (heads : List RoutePair) (noted : (pair : RoutePair) → has_changed kept pair ≡ true → IsNoted kept when heads pair) where
  -- where the least node is noted of each loop of which a pair has changed, there is no other such loop
  pub complete : (pair : RoutePair) → list_any (same_pair pair) heads ≡ false → changed_loop kept when pair ≡ None
  complete pair absent = go (found_from kept when pair) refl
    where
      none : (nodes : List Mac) → Walked (nexts_at kept when pair.orig) pair.node (length kept.routes) pair.node nodes → (is_least_of nodes pair.node && have_changed kept pair.orig nodes) ≡ true → ⊥
      none nodes way passes =
          let parts = both (is_least_of nodes pair.node) (have_changed kept pair.orig nodes) passes in
          let least : is_least_of (pair.node ∷ way.rest) pair.node ≡ true = subst (λ ns. is_least_of ns pair.node ≡ true) way.begins parts.0 in
          let changed : have_changed kept pair.orig (pair.node ∷ way.rest) ≡ true = subst (λ ns. have_changed kept pair.orig ns ≡ true) way.begins parts.1 in
          let one = one_passes (λ node. has_changed kept (pair_of pair.orig node)) (pair.node ∷ way.rest) changed in
          let first : HasHead (nexts_at kept when pair.orig) pair.node pair.node
          = record { rest = way.rest; leads = way.leads; among = ap (λ b. b || list_any (same_mac pair.node) way.rest) (same_self pair.node); least = least } in
          let there = head_along (nexts_at kept when pair.orig) pair.node pair.node pair.node way.rest way.leads first one.node one.among in
          false≢true (sym absent ∙ noted (pair_of pair.orig one.node) one.passes pair.node there)

      by_changed : (nodes : List Mac) → Walked (nexts_at kept when pair.orig) pair.node (length kept.routes) pair.node nodes → (b : Bool) → (is_least_of nodes pair.node && have_changed kept pair.orig nodes) ≡ b
          → cond b (Some (loop_with pair.orig nodes)) None ≡ None
      by_changed nodes way true is = absurd (none nodes way is)
      by_changed nodes way false is = refl

      go : (o : Option (List Mac)) → found_from kept when pair ≡ o → option_and_then (if_changed kept pair) o ≡ None
      go None is = refl
      go (Some nodes) is = by_changed nodes (walked (nexts_at kept when pair.orig) pair.node (length kept.routes) pair.node nodes is) (is_least_of nodes pair.node && have_changed kept pair.orig nodes) refl

-- ---- the loop of one pair
again : (a b : Bool) → (a || (a || b)) ≡ true → (a || b) ≡ true
again true b e = refl
again false b e = e

once : (a b : Bool) → (a && (a && b)) ≡ true → (a && b) ≡ true
once true b e = e
once false b e = absurd (false≢true e)

module _ (kept : Kept) (when : When) (are_kept : AreKept kept) (heads : List RoutePair) (pair : RoutePair) where
  -- a loop is found from each of its nodes
  head_found : (head : Mac) (has : HasHead (nexts_at kept when pair.orig) pair.node head) → found_from kept when pair ≡ Some (pair.node ∷ has.rest)
  head_found head has = is_walked (nexts_at kept when pair.orig) pair.node (length kept.routes) pair.node has.rest has.leads (room_kept kept are_kept when pair.orig pair.node has.rest has.leads)

  -- where none is found there is none to note
  pub none_noted : found_from kept when pair ≡ None → IsNoted kept when heads pair
  none_noted none head has = let found = head_found head has in absurd cc

  -- where one is found its least node is noted
  pub least_noted : (nodes : List Mac) → found_from kept when pair ≡ Some nodes → list_any (same_pair (pair_of pair.orig (best_of is_smaller pair.node nodes))) heads ≡ true → IsNoted kept when heads pair
  least_noted nodes is there head has =
      let found = head_found head has in
      let begins : nodes ≡ pair.node ∷ has.rest = cc in
      let best = best_of is_smaller pair.node (pair.node ∷ has.rest) in
      let same : best ≡ head
      = one_least (pair.node ∷ has.rest) best head (again (same_mac best pair.node) (list_any (same_mac best) has.rest) (best_among pair.node (pair.node ∷ has.rest)))
      (once (not (is_smaller pair.node best)) (is_least_of has.rest best) (best_is_least pair.node (pair.node ∷ has.rest))) has.among has.least in
      subst (λ h. list_any (same_pair (pair_of pair.orig h)) heads ≡ true) (ap (best_of is_smaller pair.node) begins ∙ same) there

-- ---- pairs with one more
module _ (old new : List RoutePair) (pair : RoutePair) (added : (q : RoutePair) → list_any (same_pair q) new ≡ cond (same_pair pair q) true (list_any (same_pair q) old)) where
  -- those from before are among them
  pub are_among : AreAmong old new
  are_among q there = added q ∙ go (same_pair pair q)
    where
      go : (b : Bool) → cond b true (list_any (same_pair q) old) ≡ true
      go true = refl
      go false = there

  -- so is the one
  pub is_among : list_any (same_pair pair) new ≡ true
  is_among = added pair ∙ ap (λ b. cond b true (list_any (same_pair pair) old)) (pair_equiv.refl pair)

-- what is noted stays so
pub stays_noted : (kept : Kept) (when : When) (old new : List RoutePair) (pair : RoutePair) → AreAmong old new → IsNoted kept when old pair → IsNoted kept when new pair
stays_noted kept when old new pair among noted head has = among (pair_of pair.orig head) (noted head has)
