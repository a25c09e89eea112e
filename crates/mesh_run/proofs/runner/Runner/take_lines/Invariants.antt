use Rattle.std.proofs.Common.{◌≡◌, ℕ, ◌+◌, ◌≤◌, List, ◌++◌, length, Option}
use Rattle.mesh_model.specs.declared.input_kind.InputKind.{InputKind}
use Rattle.mesh_run.specs.Inner.Kinds.{IsReady}
use Rattle.mesh_run.specs.Inner.Progress.{Stands}
use Rattle.mesh_run.proofs.runner.Runner.take_lines.Given as goal

abbrev pub invariant-loop-end : goal.invariant-loop-end
invariant-loop-end g l = record {
  done : List ℕ;
  split : l.bytes ≡ done ++ l.rest;
  stands : (kind : InputKind) (base : Option (List ℕ)) (read : List ℕ) → Stands kind base (g.K.Sink.taken l.initial.out) l.initial.self read → Stands kind base (g.K.Sink.taken l.out) l.self (read ++ done);
  ready : IsReady l.self.carrier;
  taken : l.self.taken + length l.rest ≡ l.initial.self.taken + length l.bytes;
  within : l.initial.self.taken + length l.bytes ≤ 67108864;
  faults : g.K.Sink.faults l.initial.out ≤ g.K.Sink.faults l.out;
}

abbrev pub decreases-loop-end : goal.decreases-loop-end
decreases-loop-end g l = length l.rest
