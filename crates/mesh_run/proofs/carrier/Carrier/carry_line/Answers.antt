use Rattle.mesh_run.proofs.CarrierLemmas.{bisect_line, stage_line}
use Rattle.mesh_run.proofs.carrier.Carrier.carry_line.Goals as goal

pub returns-in-Stage-clause-line : goal.returns-in-Stage-clause-line
returns-in-Stage-clause-line g c = λ kind. rw c.in-Stage.is
    (stage_line (g.K.Sink.taken c.args.out.now) (g.K.Sink.taken c.carry_scenario.new.out) c.args.line.now c.args.number c.carry_scenario.result kind c.in-Stage.stage c.carry_scenario.new.stage c.carry_scenario.ensures.line)

pub returns-in-Bisect-clause-line : goal.returns-in-Bisect-clause-line
returns-in-Bisect-clause-line g c = λ kind. rw c.in-Bisect.is
    (bisect_line (g.K.Sink.taken c.args.out.now) (g.K.Sink.taken c.take_route.new.out) c.args.line.now c.args.number c.take_route.result kind c.in-Bisect.bisect c.take_route.new.bisect c.take_route.ensures.line)
