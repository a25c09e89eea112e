-- Addresses of nodes are whole and of one node each, and so are those that they may send to.
use Rattle.std.proofs.Common.{◌≡◌, ◌⊎◌, inl, inr, ℕ, suc, [], ◌∷◌, ◌++◌, slice_get, Some, None, Ok, refl, sym, ap, subst, ◌∙◌}
use Rattle.mesh_base.specs.declared.address.Mac.{Mac}
use Rattle.mesh_model.specs.Clients.Log.{Given, Tick, LinkFrame, LanFrame, Line, LogEntry}
use Rattle.mesh_model.specs.Knowledge.Steps.{knowledge, next_knowledge, table_behind}
use Rattle.mesh_model.specs.Net.Due.{ticks_in}
use Rattle.mesh_model.specs.Net.Inputs.{entry_of, given_to, noted_at, noting}
use Rattle.mesh_model.specs.Net.Limits.{scenario_setup}
use Rattle.mesh_model.specs.Net.Mesh.{NodeLog, Mesh}
use Rattle.mesh_model.specs.Packets.LinkFrame.{link_frame}
use Rattle.mesh_model.specs.Routes.Queries.{Queries}
use Rattle.mesh_laws.proofs.Schedule.Members.{one_some}
use Rattle.mesh_tie.specs.Sources.{IsWhole}
use Rattle.mesh_tie.specs.Steps.{IsNew, IsReachable, Steps, begins, frame_comes, goes_on, lan_comes, lan_joins, line_gives, link_joins, node_joins, node_ticks, put_comes, put_reaches, time_passes, routes_told}
use Rattle.mesh_tie.specs.Tie.{IsOrderly, KnowsWhole, known_at_node}
use Rattle.mesh_tie.proofs.AddressLemmas.{heads_whole}
use Rattle.mesh_tie.proofs.LanSteps.{lan_knows}
use Rattle.mesh_tie.proofs.NodeLists.{Renewed, another, got_front, itself, no_length, renewed}
use Rattle.mesh_tie.proofs.NodeSteps.{line_knows, packets_know, tick_knows}
use Rattle.mesh_tie.proofs.SentLemmas.{HasGiven, given_is}

-- a mesh that a node joined
abbrev pub joined : Mesh → NodeLog → Mesh
joined mesh new = record mesh { nodes = mesh.nodes ++ new ∷ [] }

joined_orderly : (queries : Mac → Queries) (mesh : Mesh) (new : NodeLog) → new.log ≡ [] → IsWhole new.mac → IsNew new.mac mesh.nodes → IsOrderly queries mesh → IsOrderly queries (joined mesh new)
joined_orderly queries mesh new empty whole fresh o = record {
  whole = λ at n got. whole_at at n (got_front mesh.nodes new at n got);
  distinct = λ at other n second got more same. distinct at other n second got more same (got_front mesh.nodes new at n got) (got_front mesh.nodes new other second more);
  knows = λ at n got. knows at n (got_front mesh.nodes new at n got);
}
  where
    whole_at : (at : ℕ) (n : NodeLog) → (slice_get mesh.nodes at ≡ Some n) ⊎ ((n ≡ new) × (slice_get mesh.nodes at ≡ None)) → IsWhole n.mac
    whole_at at n (inl old) = o.whole at n old
    whole_at at n (inr is) = subst (λ (x : NodeLog). IsWhole x.mac) (sym is.0) whole

    distinct : (at other : ℕ) (n second : NodeLog) → slice_get (mesh.nodes ++ new ∷ []) at ≡ Some n → slice_get (mesh.nodes ++ new ∷ []) other ≡ Some second → n.mac ≡ second.mac
        → (slice_get mesh.nodes at ≡ Some n) ⊎ ((n ≡ new) × (slice_get mesh.nodes at ≡ None)) → (slice_get mesh.nodes other ≡ Some second) ⊎ ((second ≡ new) × (slice_get mesh.nodes other ≡ None)) → at ≡ other
    distinct at other n second got more same (inl old) (inl older) = o.distinct at other n second old older same
    distinct at other n second got more same (inl old) (inr is) = absurd (fresh at n old (same ∙ ap (λ (x : NodeLog). x.mac) is.0))
    distinct at other n second got more same (inr is) (inl old) = absurd (fresh other second old (sym same ∙ ap (λ (x : NodeLog). x.mac) is.0))
    distinct at other n second got more same (inr is) (inr also) = no_length mesh.nodes at other new (got ∙ ap Some is.0) is.1 (more ∙ ap Some also.0) also.1

    knows : (at : ℕ) (n : NodeLog) → (slice_get mesh.nodes at ≡ Some n) ⊎ ((n ≡ new) × (slice_get mesh.nodes at ≡ None)) → KnowsWhole (known_at_node queries n)
    knows at n (inl old) = o.knows at n old
    knows at n (inr is) = subst (λ l. KnowsWhole (knowledge (queries n.mac) n.mac l)) (sym (ap (λ (x : NodeLog). x.log) is.0 ∙ empty)) (record { tables = tt; marks = tt; services = record { offers = tt; choice = λ gateway is. cc } })

knows_after : (queries : Mac → Queries) (orig : Mac) (mesh after : Mesh) (place now root : ℕ) (node : NodeLog) (given : Given) → IsOrderly queries mesh → slice_get mesh.nodes place ≡ Some node
    → given_to (scenario_setup queries) place now root given mesh ≡ Ok after → KnowsWhole (next_knowledge (queries node.mac) node.mac node.log (known_at_node queries node) now given) → IsOrderly queries after
knows_after queries orig mesh after place now root node given o found is k = record {
  whole = λ at n got. let p = was at n (renewed place entry mesh.nodes at n (at_after at n got)) in subst IsWhole (sym p.2) (o.whole at p.0 p.1);
  distinct = λ at other n second got more same.
      let p = was at n (renewed place entry mesh.nodes at n (at_after at n got)) in
      let r = was other second (renewed place entry mesh.nodes other second (at_after other second more)) in
      o.distinct at other p.0 r.0 p.1 r.1 (sym p.2 ∙ same ∙ r.2);
  knows = λ at n got. knows at n (renewed place entry mesh.nodes at n (at_after at n got));
}
  where
    entry : LogEntry
    entry = entry_of (scenario_setup queries) node now given

    given_has : HasGiven (scenario_setup queries) place now root node given mesh after
    given_has = given_is (scenario_setup queries) place now root node given mesh after found is

    at_after : (at : ℕ) (n : NodeLog) → slice_get after.nodes at ≡ Some n → slice_get (noted_at place entry mesh.nodes) at ≡ Some n
    at_after at n got = subst (λ ns. slice_get ns at ≡ Some n) given_has.nodes got

    was : (at : ℕ) (n : NodeLog) → Renewed place entry mesh.nodes at n → (before : NodeLog) × (slice_get mesh.nodes at ≡ Some before) × (n.mac ≡ before.mac)
    was at n (another d got) = (n, got, refl)
    was at n (itself before same got noted) = (before, got, ap (λ (x : NodeLog). x.mac) noted)

    knows : (at : ℕ) (n : NodeLog) → Renewed place entry mesh.nodes at n → KnowsWhole (known_at_node queries n)
    knows at n (another d got) = o.knows at n got
    knows at n (itself before same got noted) =
        let one : node ≡ before = one_some node before (sym found ∙ ap (slice_get mesh.nodes) same ∙ got) in
        subst (λ (x : NodeLog). KnowsWhole (known_at_node queries x)) (ap (noting entry) one ∙ sym noted) k

-- ---- all steps
step_orderly : (queries : Mac → Queries) (mesh after : Mesh) → IsOrderly queries mesh → Steps queries mesh after → IsOrderly queries after
step_orderly queries mesh _ o (node_joins _ node empty whole fresh) = joined_orderly queries mesh node empty whole fresh o
step_orderly queries mesh _ o (link_joins _ link) = record { whole = o.whole; distinct = o.distinct; knows = o.knows }
step_orderly queries mesh after o (line_gives _ _ place now node line found may of is) =
    knows_after queries node.mac mesh after place now 0 node (Line line) o found is (line_knows (queries node.mac) node.mac node.log (known_at_node queries node) now line (o.knows place node found))
step_orderly queries mesh after o (node_ticks _ _ place now node found may is) =
    let index = suc (ticks_in node.log) in
    knows_after queries node.mac mesh after place now index node (Tick index) o found is (tick_knows (queries node.mac) node.mac now index (table_behind node.mac node.log now index) (known_at_node queries node) (o.knows place node found))
step_orderly queries mesh after o (frame_comes _ _ place now number throughput from node frame found may sent whole is) =
    knows_after queries node.mac mesh after place now frame.root node (LinkFrame (suc number) from throughput frame.bytes) o found is
    (packets_know (queries node.mac) node.mac (record { now = now; from = from; throughput = throughput; number = suc number }) (link_frame frame.bytes).packets (known_at_node queries node)
    (heads_whole frame.bytes) (o.knows place node found))
step_orderly queries mesh _ o (lan_joins _ lan) = record { whole = o.whole; distinct = o.distinct; knows = o.knows }
step_orderly queries mesh _ o (put_comes _ put frame by is tells) = record { whole = o.whole; distinct = o.distinct; knows = o.knows }
step_orderly queries mesh _ o (put_reaches _ number now put frame found carries) = record { whole = o.whole; distinct = o.distinct; knows = o.knows }
step_orderly queries mesh after o (lan_comes _ _ place now number node put found may among is) =
    knows_after queries node.mac mesh after place now 0 node (LanFrame put.bytes) o found is (lan_knows (queries node.mac) node.mac node.log (known_at_node queries node) now put.bytes (o.knows place node found))
step_orderly queries mesh _ o (time_passes _ happening) = record { whole = o.whole; distinct = o.distinct; knows = o.knows }
step_orderly queries mesh _ o (routes_told _ lines watch) = record { whole = o.whole; distinct = o.distinct; knows = o.knows }

pub orderly : (queries : Mac → Queries) (mesh : Mesh) → IsReachable queries mesh → IsOrderly queries mesh
orderly queries _ (begins watch) = record {
  whole = λ place node got. cc;
  distinct = λ place other node second got more same. cc;
  knows = λ place node got. cc;
}
orderly queries _ (goes_on mesh after r s) = step_orderly queries mesh after (orderly queries mesh r) s
