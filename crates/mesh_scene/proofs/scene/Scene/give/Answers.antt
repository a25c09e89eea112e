use Rattle.std.proofs.lemmas.Result.{err_from_is_err_and}
use Rattle.mesh_model.specs.Net.Limits.{scenario_setup}
use Rattle.mesh_model.specs.Run.Names.{OfNode}
use Rattle.mesh_model.specs.Run.Steps.{at_node}
use Rattle.mesh_node.specs.NodeStands.{given_by}
use Rattle.mesh_scene.specs.Inner.AtNodes.{given_step}
use Rattle.mesh_scene.proofs.GivenLemmas.{given_there}
use Rattle.mesh_scene.proofs.NameLemmas.{name_fails}
use Rattle.mesh_scene.proofs.scene.Scene.give.Goals as goal

pub returns-in_err-place : goal.returns-in_err-place
returns-in_err-place g c = λ state stands.
    let p = err_from_is_err_and c.from_residual.result c.from_residual.ensures.1 in
    rw (p.1, p.2)
    (name_fails state (OfNode c.args.name.now) (at_node c.args.name.now (given_step (scenario_setup g.A.Algo.queries) (given_by 0 c.args.input.now)) state) c.in_err-place.field-0.0
    (c.in_err-place.ensures.refused state stands))

pub returns : goal.returns
returns g c = λ state stands.
    let is = c.in_ok-place.ensures.found state stands in
    rw (given_there (scenario_setup g.A.Algo.queries) state c.args.name.now (given_by 0 c.args.input.now) c.in_ok-place.place is.allowed is.at) (c.give_node.ensures state stands)
