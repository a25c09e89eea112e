use Rattle.std.proofs.Common.{◌≡◌, ◌∙◌, Some, ap, filter_map, rules, sym}
use Rattle.mesh_serv.specs.OffersStand.{offered}
use Rattle.node_ground.specs.ServiceRows.{choosable_of}
use Rattle.node_ground.proofs.OffersLemmas.{choosable_are}
use Rattle.node_ground.proofs.knowledge.NodeKnowledge.choosable.Goals as goal

pub loop-orig-init : goal.loop-orig-init
loop-orig-init g c = λ me known stands.
    let q = g.A.Algo.queries me in
    let kept = c.args.self.now.services.offers in
    let walk : c.into_iter-orig-iterator.result ≡ kept = search rules in
    rw c.new-rows.ensures.items (sym (choosable_are q known c.args.now kept stands.services.offers) ∙ ap (filter_map (λ e. choosable_of q known c.args.now e.0 (Some (offered e.1)))) (sym walk))
