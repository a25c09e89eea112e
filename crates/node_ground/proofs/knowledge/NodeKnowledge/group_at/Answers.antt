use Rattle.std.proofs.Common.{◌≡◌, ◌∙◌, None, Some, ap, filter_map, rules, slice_get, sym}
use Rattle.mesh_model.specs.Knowledge.Offers.{group_rows}
use Rattle.mesh_serv.specs.OffersStand.{offered}
use Rattle.node_ground.specs.ServiceRows.{group_of}
use Rattle.node_ground.proofs.OffersLemmas.{groups_are, none_past_end}
use Rattle.node_ground.proofs.knowledge.NodeKnowledge.group_at.Goals as goal

pub loop-orig-init : goal.loop-orig-init
loop-orig-init g c = λ me known stands.
    let q = g.A.Algo.queries me in
    let kept = c.args.self.now.services.offers in
    let walk : c.into_iter-orig-iterator.result ≡ kept = search rules in
    ap (λ rows. slice_get rows c.args.i) (sym (groups_are q known c.args.now kept stands.services.offers) ∙ ap (filter_map (λ e. group_of q known c.args.now e.0 (Some (offered e.1)))) (sym walk))

pub returns-then-before-eq0-clause-past_end : goal.returns-then-before-eq0-clause-past_end
returns-then-before-eq0-clause-past_end g c = λ me known stands.
    let rows = group_rows (g.A.Algo.queries me) known c.args.now in
    let there : Some c.in-Some-group.row ≡ slice_get rows c.args.i = search rules in
    none_past_end rows c.args.i (Some c.in-Some-group.row) there

pub returns-clause-past_end : goal.returns-clause-past_end
returns-clause-past_end g c = λ me known stands.
    let rows = group_rows (g.A.Algo.queries me) known c.args.now in
    let none : None ≡ slice_get rows c.args.i = search rules in
    none_past_end rows c.args.i None none
