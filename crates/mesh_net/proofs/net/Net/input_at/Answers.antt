use Rattle.std.proofs.Common.{subst}
use Rattle.std.specs.Result.{OnOk}
use Rattle.mesh_model.specs.Net.Due.{ticks_in}
use Rattle.mesh_model.specs.Net.Inputs.{given_to}
use Rattle.mesh_model.specs.Net.Limits.{scenario_setup}
use Rattle.mesh_node.specs.NodeStands.{given_by}
use Rattle.mesh_net.specs.Steps.{Tried}
use Rattle.mesh_net.proofs.InputLemmas.{line_counts, line_taken}
use Rattle.mesh_net.proofs.net.Net.input_at.Goals as goal

pub give_at-requires : goal.give_at-requires
give_at-requires g c = line_taken g.A.Algo.queries g.A.Algo.stands c.args.self.now c.args.place c.args.self.now.clock 0 c.args.input.now c.requires.nodes c.requires.line

pub returns-clause-given : goal.returns-clause-given
returns-clause-given g c = λ choice last ticks mesh begun.
    subst (λ k. OnOk c.give_at.result (Tried g.A.Algo.queries g.A.Algo.stands c.give_at.new.seats.items c.give_at.new.post k c.args.self.now.sent last ticks mesh c.args.log.now c.give_at.new.log
    (given_to (scenario_setup g.A.Algo.queries) c.args.place c.args.self.now.clock 0 (given_by 0 c.args.input.now) mesh))) begun.choice_is
    (c.give_at.ensures.given c.args.self.now.sent last ticks mesh 0 begun.stage (λ row found. line_counts (ticks_in row.log) 0 c.args.input.now c.requires.line))

pub returns-clause-cause : goal.returns-clause-cause
returns-clause-cause g c = λ choice last ticks mesh begun.
    c.give_at.ensures.cause c.args.self.now.sent last ticks mesh 0 begun.stage (λ row found. line_counts (ticks_in row.log) 0 c.args.input.now c.requires.line)
