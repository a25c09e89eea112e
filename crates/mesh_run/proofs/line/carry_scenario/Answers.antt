use Rattle.std.proofs.Common.{arith, ap, ◌∙◌, rules}
use Rattle.mesh_model.specs.declared.line_form.Command.{Command}
use Rattle.mesh_model.specs.Run.PlainRun.{after_reading}
use Rattle.mesh_model.specs.Scenario.Commands.{command_of_line}
use Rattle.mesh_laws.proofs.Lines.ReadRange.{read-has-gateways, read-in-range}
use Rattle.mesh_scene.specs.StageStands.{outcome_on_stage}
use Rattle.mesh_run.proofs.FaultLemmas.{line_blameless, reading_fails}
use Rattle.mesh_run.proofs.line.carry_scenario.Goals as goal

pub returns-in-Ok-Algo-clause-line : goal.returns-in-Ok-Algo-clause-line
returns-in-Ok-Algo-clause-line g c = λ base state stands.
    let outcome = ap (after_reading state) c.in-Ok-Algo.ensures.ok ∙ ap (λ (command : Command). outcome_on_stage command state) c.in-Ok-Algo.field-0-is in
    rw outcome (c.choose.ensures.line (g.K.Sink.taken c.args.out.now) base state stands)

pub returns-in-Ok-Algo-clause-faults : goal.returns-in-Ok-Algo-clause-faults
returns-in-Ok-Algo-clause-faults g c = c.choose.ensures.faults (g.K.Sink.faults c.args.out.now)

pub returns-in-Ok-Run-clause-line : goal.returns-in-Ok-Run-clause-line
returns-in-Ok-Run-clause-line g c = λ base state stands.
    let outcome = ap (after_reading state) c.in-Ok-Run.ensures.ok ∙ ap (λ (command : Command). outcome_on_stage command state) c.in-Ok-Run.field-0-is in
    rw outcome (c.run_on_stage.ensures.line base state stands)

pub carry_on_stage-requires : goal.carry_on_stage-requires
carry_on_stage-requires g c = record {
  somewhere = c.requires.somewhere;
  ranges = read-in-range c.args.line.now c.in-Ok.command c.in-Ok.ensures.ok;
  gateways = λ name gateways is. read-has-gateways c.args.line.now c.in-Ok.command name gateways c.in-Ok.ensures.ok is;
  other = search rules;
}

pub returns-in-Ok-clause-line : goal.returns-in-Ok-clause-line
returns-in-Ok-clause-line g c = λ base state stands. rw (ap (after_reading state) c.in-Ok.ensures.ok) (c.carry_on_stage.ensures.line base state stands)

pub returns-in-Err-clause-line : goal.returns-in-Err-clause-line
returns-in-Err-clause-line g c = λ base state stands. rw c.at.ensures
    (reading_fails base (g.K.Sink.taken c.args.out.now) state (command_of_line c.args.line.now) c.args.number c.reading_fault.result stands.printed
    (c.reading_fault.ensures.cause (command_of_line c.args.line.now) c.in-Err.ensures.refused))

pub returns-in-Err-clause-faults : goal.returns-in-Err-clause-faults
returns-in-Err-clause-faults g c = record { kept = omega arith; cause = rw c.at.ensures (line_blameless _ _ c.args.number c.reading_fault.result) }
