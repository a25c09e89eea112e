use Rattle.std.proofs.Common.{◌≡◌, ℕ, List, Option, IfSome, subst}
use Rattle.mesh_model.specs.Net.Limits.{scenario_setup}
use Rattle.mesh_model.specs.Clients.Log.{Given}
use Rattle.mesh_model.specs.Run.Rules.{carried_out}
use Rattle.mesh_scene.specs.Inner.AtNodes.{given_at}
use Rattle.mesh_scene.proofs.GivenLemmas.{given_so}
use Rattle.mesh_scene.proofs.scene.Scene.carry_out.Goals as goal

pub returns-in-Some : goal.returns-in-Some
returns-in-Some g c = λ state stands.
    let G : Option (List ℕ × Given) → Type 0 = λ o. IfSome o (λ given. carried_out (scenario_setup g.A.Algo.queries) state c.args.command ≡ given_at (scenario_setup g.A.Algo.queries) given.0 given.1 state) in
    rw (subst G c.in-Some.ensures.some (given_so (scenario_setup g.A.Algo.queries) state c.args.command)) (c.give.ensures state stands)
