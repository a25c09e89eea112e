use Rattle.std.proofs.Common.{ℕ, ◌-◌, ◌≤◌, List, [], Option}
use Rattle.std.specs.Io.KnownBytes.{Consumes}
use Rattle.mesh_model.specs.declared.input_kind.InputKind.{InputKind}
use Rattle.mesh_run.specs.Inner.Kinds.{IsReady}
use Rattle.mesh_run.specs.Inner.Progress.{Stands}
use Rattle.mesh_run.proofs.input.read_all.Given as goal

abbrev pub invariant-pieces : goal.invariant-pieces
invariant-pieces g l = record {
  read : List ℕ;
  took : Consumes (g.I.Intake.left l.initial.intake) (g.I.Intake.left l.intake) read;
  stands : (kind : InputKind) (base : Option (List ℕ)) → Stands kind base (g.K.Sink.taken l.initial.out) l.initial.runner [] → Stands kind base (g.K.Sink.taken l.out) l.runner read;
  ready : IsReady l.runner.carrier;
  reads : g.I.Intake.faults l.initial.intake ≤ g.I.Intake.faults l.intake;
  writes : g.K.Sink.faults l.initial.out ≤ g.K.Sink.faults l.out;
}

abbrev pub decreases-pieces : goal.decreases-pieces
decreases-pieces g l = 67108864 - l.runner.taken
