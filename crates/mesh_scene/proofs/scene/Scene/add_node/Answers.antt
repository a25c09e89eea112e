use Rattle.std.proofs.Common.{refl, sym, ap, ◌∙◌, arith}
use Rattle.std.specs.Prelude.{is_some}
use Rattle.std.proofs.lemmas.Result.{err_from_is_err_and}
use Rattle.mesh_model.specs.Net.Limits.{scenario_setup}
use Rattle.mesh_scene.proofs.NameLemmas.{not_taken}
use Rattle.mesh_scene.proofs.PlaceLemmas.{addressed, option_is, placed}
use Rattle.mesh_scene.proofs.TopologyLemmas.{address_taken, name_taken, names_by_parts, node_carries, node_fails}
use Rattle.mesh_scene.proofs.scene.Scene.add_node.Goals as goal

pub returns-then-is_taken : goal.returns-then-is_taken
returns-then-is_taken g c = λ state stands.
    rw c.refused.ensures (name_taken (scenario_setup g.A.Algo.queries) state c.args.name.now c.args.mac (sym (c.is_taken.ensures state stands) ∙ c.if-is_taken.true))

pub returns-then-is_some : goal.returns-then-is_some
returns-then-is_some g c = λ state stands.
    let scene = c.args.self.now in
    rw c.refused-then-is_some.ensures (address_taken (scenario_setup g.A.Algo.queries) state c.args.name.now c.args.mac
    (sym (c.is_taken.ensures state stands) ∙ c.if-is_taken.false)
    (sym (addressed g.A.Choosable.algorithm g.A.Algo.queries g.A.Algo.stands scene state c.args.mac stands) ∙ ap (λ o. is_some o) (sym c.node_name.ensures) ∙ option_is _ c.node_name.result ∙ sym c.is_some.ensures ∙ c.if-is_some.true))

pub returns-in_err-add_node : goal.returns-in_err-add_node
returns-in_err-add_node g c = λ state stands.
    let scene = c.args.self.now in
    let p = err_from_is_err_and c.from_residual.result c.from_residual.ensures.1 in
    rw (p.1, p.2) (node_fails (scenario_setup g.A.Algo.queries) state c.args.name.now c.args.mac c.in_err-add_node.field-0.0
    (sym (c.is_taken.ensures state stands) ∙ c.if-is_taken.false)
    (sym (addressed g.A.Choosable.algorithm g.A.Algo.queries g.A.Algo.stands scene state c.args.mac stands) ∙ ap (λ o. is_some o) (sym c.node_name.ensures) ∙ option_is _ c.node_name.result ∙ sym c.is_some.ensures ∙ c.if-is_some.false)
    (c.in_err-add_node.ensures.cause state.choice state.clock state.mesh stands.net_is))

pub returns : goal.returns
returns g c = λ state stands.
    let scene = c.args.self.now in
    let joined = c.in_ok-add_node.ensures.joins state.choice state.clock state.mesh stands.net_is in
    let free = sym (c.is_taken.ensures state stands) ∙ c.if-is_taken.false in
    node_carries g.A.Choosable.algorithm g.A.Algo.queries g.A.Algo.stands state scene _ c.args.name.now c.args.mac stands free
    (sym (addressed g.A.Choosable.algorithm g.A.Algo.queries g.A.Algo.stands scene state c.args.mac stands) ∙ ap (λ o. is_some o) (sym c.node_name.ensures) ∙ option_is _ c.node_name.result ∙ sym c.is_some.ensures ∙ c.if-is_some.false)
    (placed g.A.Choosable.algorithm g.A.Algo.queries g.A.Algo.stands scene state c.args.name.now stands ∙ not_taken state c.args.name.now free)
    (omega (arith, joined.room)) (joined.standing c.args.name.now) (names_by_parts _ _ _ c.in_ok-add_node-2.ensures.nodes c.add_node-2.ensures.lans) refl
