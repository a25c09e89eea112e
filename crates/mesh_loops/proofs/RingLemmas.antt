-- The loops of lines are rings: what leads from a node back to it, over different nodes.
use Rattle.std.proofs.Common.{◌≡◌, true, false, ◌||◌, List, [], ◌∷◌, Option, Some, sym, ap, ◌∙◌, subst}
use Rattle.std.specs.List.{AllByRecursion, IsDistinct, list_any}
use Rattle.mesh_base.specs.declared.address.Mac.{Mac}
use Rattle.mesh_model.specs.declared.route_line.RouteLine.{RouteLine}
use Rattle.mesh_model.specs.declared.route_line.RoutePair.{RoutePair}
use Rattle.mesh_model.specs.declared.route_loop.Loop.{Loop}
use Rattle.mesh_model.specs.Loops.Reports.{has_loop}
use Rattle.mesh_model.specs.Loops.Routes.{is_least_of, loop_at, loops_of, next_of, pairs_of}
use Rattle.mesh_model.specs.Routes.Addresses.{same_mac}
use Rattle.mesh_laws.proofs.MacLemmas.{same_equiv, same_self}
use Rattle.mesh_loops.specs.Changed.{pair_of}
use Rattle.mesh_loops.specs.Laws.{GoRound, IsRing, LeadTo, LoopsAreRings, OneLoop}
use Rattle.mesh_loops.specs.Walks.{HasHead, Leads}
use Rattle.mesh_loops.proofs.HeadLemmas.{head_along, one_least}
use Rattle.mesh_loops.proofs.LoopLemmas.{IsLoopAt, at_is, at_known, is_at, is_made, was_made}
use Rattle.mesh_loops.proofs.PairLemmas.{pair_same}
use Rattle.mesh_loops.proofs.WalkLemmas.{nodes_differ, same_walk}

module _ (next : Mac → Option Mac) (goal : Mac) where
  -- what leads to the goal over others leads to it
  lead_to : (node : Mac) (rest : List Mac) → Leads next goal node rest → LeadTo next goal (node ∷ rest)
  lead_to node [] leads = leads
  lead_to node (after ∷ rest) leads = (leads.0, lead_to after rest leads.2)

  -- so does it over others where the goal is none of them
  leads_to : (node : Mac) (rest : List Mac) → LeadTo next goal (node ∷ rest) → AllByRecursion (λ y. same_mac goal y ≡ false) rest → Leads next goal node rest
  leads_to node [] lead differ = lead
  leads_to node (after ∷ rest) lead differ = (lead.0, same_equiv.symm after goal ∙ differ.0, leads_to after rest lead.1 differ.1)

module _ (lines : List RouteLine) where
  -- ---- a loop is a ring
  at_ring : (pair : RoutePair) (l : Loop) → IsLoopAt lines pair l → IsRing lines l
  at_ring pair l at = subst (IsRing lines) (sym at.is) (record {
    differ = nodes_differ (next_of lines pair.orig) pair.node pair.node at.rest at.leads;
    round = (lead_to (next_of lines pair.orig) pair.node pair.node at.rest at.leads, at.least);
  })

  is_ring : (l : Loop) → has_loop (loops_of lines) l ≡ true → IsRing lines l
  is_ring l has = let made = was_made (loop_at lines) (pairs_of lines) l has in at_ring made.pair l (is_at lines made.pair l made.is)

  -- ---- a ring is a loop
  of_nodes : (orig : Mac) (nodes : List Mac) → IsDistinct same_mac nodes → GoRound (next_of lines orig) nodes → has_loop (loops_of lines) (record { orig = orig; nodes = nodes }) ≡ true
  unfolding IsDistinct
  of_nodes orig [] differ round = absurd round
  of_nodes orig (first ∷ rest) differ round =
      let pair = pair_of orig first in
      let leads = leads_to (next_of lines orig) first first rest round.0 differ.0 in
      is_made (loop_at lines) (pairs_of lines) pair (record { orig = orig; nodes = first ∷ rest }) (at_known lines pair rest leads) pair_same (at_is lines pair rest leads round.1)

  is_loop : (l : Loop) → IsRing lines l → has_loop (loops_of lines) l ≡ true
  is_loop l ring = of_nodes l.orig l.nodes ring.differ ring.round

-- ---- the two laws
pub loops_are_rings : LoopsAreRings
loops_are_rings lines l = (is_ring lines l, is_loop lines l)

-- a node has one least node of its loop
one_head : (next : Mac → Option Mac) (node a b : Mac) → HasHead next node a → HasHead next node b → a ≡ b
one_head next node a b has_a has_b =
    let same = same_walk next node node has_b.rest has_a.rest has_b.leads has_a.leads in
    one_least (node ∷ has_a.rest) a b has_a.among has_a.least (subst (λ rest. list_any (same_mac b) (node ∷ rest) ≡ true) same has_b.among) (subst (λ rest. is_least_of (node ∷ rest) b ≡ true) same has_b.least)

-- the first node of a loop is the least of the loop of each of its nodes
head_of : (lines : List RouteLine) (pair : RoutePair) (l : Loop) → IsLoopAt lines pair l → (node : Mac) → list_any (same_mac node) l.nodes ≡ true → HasHead (next_of lines pair.orig) node pair.node
head_of lines pair l at node among =
    let first : HasHead (next_of lines pair.orig) pair.node pair.node
    = record { rest = at.rest; leads = at.leads; among = ap (λ b. b || list_any (same_mac pair.node) at.rest) (same_self pair.node); least = at.least } in
    head_along (next_of lines pair.orig) pair.node pair.node pair.node at.rest at.leads first node (subst (λ (l : Loop). list_any (same_mac node) l.nodes ≡ true) at.is among)

pub one_loop : OneLoop
one_loop lines a b node has_a has_b origs among_a among_b =
    let made_a = was_made (loop_at lines) (pairs_of lines) a has_a in
    let made_b = was_made (loop_at lines) (pairs_of lines) b has_b in
    let at_a = is_at lines made_a.pair a made_a.is in
    let at_b = is_at lines made_b.pair b made_b.is in
    let same_orig : made_a.pair.orig ≡ made_b.pair.orig = sym (ap (λ (l : Loop). l.orig) at_a.is) ∙ origs ∙ ap (λ (l : Loop). l.orig) at_b.is in
    let same_head = one_head (next_of lines made_a.pair.orig) node made_a.pair.node made_b.pair.node (head_of lines made_a.pair a at_a node among_a)
    (subst (λ orig. HasHead (next_of lines orig) node made_b.pair.node) (sym same_orig) (head_of lines made_b.pair b at_b node among_b)) in
    let same_pairs : made_a.pair ≡ made_b.pair = (λ i. record { orig = same_orig i; node = same_head i }) in
    let found : Some a ≡ Some b = sym made_a.is ∙ ap (loop_at lines) same_pairs ∙ made_b.is in
    cc
