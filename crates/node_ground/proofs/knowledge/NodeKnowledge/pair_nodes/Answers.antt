use Rattle.std.proofs.Common.{◌≡◌, ◌∷◌, [], ◌++◌, ◌∙◌, Some, ap, filter_map, rules, sym}
use Rattle.mesh_serv.specs.OffersStand.{offered}
use Rattle.node_ground.specs.PairRows.{keeper_of}
use Rattle.node_ground.proofs.PairLemmas.{nodes_are}
use Rattle.node_ground.proofs.knowledge.NodeKnowledge.pair_nodes.Goals as goal

pub loop-orig-init : goal.loop-orig-init
loop-orig-init g c = λ known stands.
    let me = c.args.me in
    let q = g.A.Algo.queries me in
    let kept = c.args.self.now.services.offers in
    let walk : c.into_iter-orig-iterator.result ≡ kept = search rules in
    let first : c.push.new.self.items ≡ me ∷ [] = c.in_ok-push.ensures.items ∙ ap (λ xs. xs ++ me ∷ []) c.new-nodes.ensures.items in
    rw first (sym (nodes_are q me known c.args.now kept stands.services.offers)
    ∙ ap (λ es. me ∷ filter_map (λ e. keeper_of q known c.args.now e.0 (Some (offered e.1))) es) (sym walk))
