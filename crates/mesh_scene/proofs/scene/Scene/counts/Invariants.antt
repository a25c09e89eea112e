use Rattle.std.proofs.Common.{◌≡◌, ◌*◌, ◌≤◌, map, sum, take}
use Rattle.mesh_model.specs.Run.Generated.{later_commits, ok_tables}
use Rattle.mesh_model.specs.Run.State.{State}
use Rattle.mesh_scene.specs.SceneStands.{SceneStands}
use Rattle.mesh_scene.proofs.scene.Scene.counts.Given as goal

abbrev pub invariant-loop-place : goal.invariant-loop-place
invariant-loop-place g l = record {
  commits : (state : State) → SceneStands g.A.Choosable.algorithm g.A.Algo.queries g.A.Algo.stands l.self state → l.commits ≡ sum (map later_commits (take l.place state.mesh.nodes));
  ok : (state : State) → SceneStands g.A.Choosable.algorithm g.A.Algo.queries g.A.Algo.stands l.self state → l.ok ≡ sum (map (ok_tables state.algorithm state.clock) (take l.place state.mesh.nodes));
  few_commits : l.commits ≤ l.place * 18446744073709551616;
  few_ok : l.ok ≤ l.place * 18446744073709551616;
}
