use Rattle.std.proofs.Common.{sym, ◌∙◌}
use Rattle.std.proofs.lemmas.Result.{err_from_is_err_and}
use Rattle.mesh_model.specs.Net.Limits.{scenario_setup}
use Rattle.mesh_node.specs.NodeStands.{given_by}
use Rattle.mesh_scene.proofs.ApartLemmas.{apart_attached, apart_fails, apart_given}
use Rattle.mesh_scene.proofs.scene.Scene.give_apart.Goals as goal

pub returns-in_err-place : goal.returns-in_err-place
returns-in_err-place g c = λ state stands.
    let p = err_from_is_err_and c.from_residual.result c.from_residual.ensures.1 in
    rw (p.1, p.2) (apart_fails (scenario_setup g.A.Algo.queries) state c.args.name.now (given_by 0 c.args.input.now) c.in_err-place.field-0.0 (c.in_err-place.ensures.refused state stands))

pub returns-then-is_gateway : goal.returns-then-is_gateway
returns-then-is_gateway g c = λ state stands.
    let attached = sym (c.is_gateway.ensures state.choice state.clock state.mesh stands.net_is) ∙ c.if-is_gateway.true in
    rw c.refused.ensures (apart_attached (scenario_setup g.A.Algo.queries) state c.args.name.now (given_by 0 c.args.input.now) c.in_ok-place.place (c.in_ok-place.ensures.found state stands) attached)

pub returns : goal.returns
returns g c = λ state stands.
    let apart = sym (c.is_gateway.ensures state.choice state.clock state.mesh stands.net_is) ∙ c.if-is_gateway.false in
    rw (apart_given (scenario_setup g.A.Algo.queries) state c.args.name.now (given_by 0 c.args.input.now) c.in_ok-place.place (c.in_ok-place.ensures.found state stands) apart) (c.give_node.ensures state stands)
