use Rattle.std.proofs.Common.{ℕ, ◌+◌, ◌-◌, ◌*◌, ◌≤◌, List, Option}
use Rattle.mesh_laws.specs.Soundness.{rank}
use Rattle.mesh_model.specs.Run.State.{State}
use Rattle.mesh_model.specs.Run.State.{text_of}
use Rattle.mesh_run.specs.Inner.Lines.{StandsAt}
use Rattle.mesh_model.specs.Net.Limits.{scenario_setup}
use Rattle.mesh_scene.specs.SceneStands.{IsSomewhere, SceneStands}
use Rattle.mesh_run.proofs.SliceLemmas.{MidRun}
use Rattle.mesh_run.proofs.time.run_until.Given as goal

abbrev pub invariant-slices : goal.invariant-slices
invariant-slices g l = record {
  goes : (base : Option (List ℕ)) (state : State) → StandsAt text_of (SceneStands g.A.Choosable.algorithm g.A.Algo.queries g.A.Algo.stands) base (g.K.Sink.taken l.initial.out) l.initial.scene state → MidRun (SceneStands g.A.Choosable.algorithm g.A.Algo.queries g.A.Algo.stands) (scenario_setup g.A.Algo.queries) l.end state base (g.K.Sink.taken l.out) l.scene;
  somewhere : IsSomewhere g.A.Choosable.algorithm g.A.Algo.queries g.A.Algo.stands l.scene;
  later : l.scene.net.clock ≤ l.end;
  faults : g.K.Sink.faults l.initial.out ≤ g.K.Sink.faults l.out;
}

abbrev pub decreases-slices : goal.decreases-slices
decreases-slices g l = (l.end + 1) * 1099511627776 - rank l.scene.net.last
