use Rattle.std.proofs.Common.{subst}
use Rattle.std.specs.Result.{OnOk}
use Rattle.mesh_model.specs.Net.Inputs.{all_given}
use Rattle.mesh_model.specs.Net.Limits.{scenario_setup}
use Rattle.mesh_node.specs.NodeStands.{given_by}
use Rattle.mesh_net.specs.Steps.{Tried}
use Rattle.mesh_net.proofs.net.Net.give_places.Goals as goal

pub returns-clause-given : goal.returns-clause-given
returns-clause-given g c = λ choice last ticks mesh begun.
    subst (λ k. OnOk c.give_all.result (Tried g.A.Algo.queries g.A.Algo.stands c.give_all.new.seats.items c.give_all.new.post k c.args.self.now.sent last ticks mesh c.args.log.now c.give_all.new.log
    (all_given (scenario_setup g.A.Algo.queries) c.args.places.now c.args.self.now.clock (given_by 0 c.args.input.now) mesh))) begun.choice_is
    (c.give_all.ensures.given c.args.self.now.sent last ticks mesh 0 begun.stage)

pub returns-clause-cause : goal.returns-clause-cause
returns-clause-cause g c = λ choice last ticks mesh begun. c.give_all.ensures.cause c.args.self.now.sent last ticks mesh 0 begun.stage
