use Rattle.std.proofs.Common.{◌≡◌, ◌∙◌, List, ℕ, subst}
use Rattle.std.specs.Result.{IfErr, OnOk}
use Rattle.mesh_model.specs.Net.Inputs.{all_given}
use Rattle.mesh_model.specs.Net.Limits.{scenario_setup}
use Rattle.mesh_model.specs.Net.Lans.{gateways_at}
use Rattle.mesh_node.specs.NodeStands.{given_by}
use Rattle.mesh_net.specs.Given.{GiveTells}
use Rattle.mesh_net.specs.Steps.{Gave}
use Rattle.mesh_net.proofs.LanSteps.{all_gateways}
use Rattle.mesh_net.proofs.net.Net.give_gateways.Goals as goal

pub returns-clause-given : goal.returns-clause-given
returns-clause-given g c = λ choice last ticks mesh begun.
    let places_are : c.as_slice.result.now ≡ gateways_at c.args.lan mesh.lans = c.as_slice.ensures.value ∙ all_gateways mesh.lans c.args.self.now.post.lans.items c.args.lan c.in_ok-places.places.items begun.stage.step.amid.stands.lans c.in_ok-places.ensures in
    subst (λ (ps : List ℕ). OnOk c.give_places.result (Gave g.A.Algo.queries g.A.Algo.stands c.give_places.new.self choice last ticks mesh c.args.log.now c.give_places.new.log (all_given (scenario_setup g.A.Algo.queries) ps c.args.self.now.clock (given_by 0 c.args.input.now) mesh))) places_are
    (c.give_places.ensures.given choice last ticks mesh begun)

pub returns-clause-cause : goal.returns-clause-cause
returns-clause-cause g c = λ choice last ticks mesh begun.
    let places_are : c.as_slice.result.now ≡ gateways_at c.args.lan mesh.lans = c.as_slice.ensures.value ∙ all_gateways mesh.lans c.args.self.now.post.lans.items c.args.lan c.in_ok-places.places.items begun.stage.step.amid.stands.lans c.in_ok-places.ensures in
    subst (λ (ps : List ℕ). IfErr c.give_places.result (GiveTells (all_given (scenario_setup g.A.Algo.queries) ps c.args.self.now.clock (given_by 0 c.args.input.now) mesh))) places_are
    (c.give_places.ensures.cause choice last ticks mesh begun)
