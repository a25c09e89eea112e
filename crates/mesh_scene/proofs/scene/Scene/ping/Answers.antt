use Rattle.std.proofs.lemmas.Result.{err_from_is_err_and}
use Rattle.mesh_model.specs.Net.Limits.{scenario_setup}
use Rattle.mesh_model.specs.Clients.Log.{Ping as GivenPing}
use Rattle.mesh_scene.proofs.scene.Scene.ping.Goals as goal

pub returns-in_err-target : goal.returns-in_err-target
returns-in_err-target g c = λ state stands.
    let p = err_from_is_err_and c.from_residual.result c.from_residual.ensures.1 in
    rw (p.1, p.2) (c.in_err-target.ensures.refused (scenario_setup g.A.Algo.queries) state GivenPing stands)

pub returns : goal.returns
returns g c = λ state stands.
    rw (c.in_ok-target.ensures.found (scenario_setup g.A.Algo.queries) state GivenPing stands) (c.give.ensures state stands)
