use Rattle.std.proofs.Common.{List, drop}
use Rattle.mesh_model.specs.declared.route_line.RouteLine.{RouteLine}
use Rattle.mesh_model.specs.Net.Limits.{scenario_setup}
use Rattle.mesh_model.specs.Net.Mesh.{NodeLog}
use Rattle.mesh_net.specs.NetStands.{SeatsStand}
use Rattle.mesh_post.specs.Sent.{Grew}
use Rattle.mesh_told.specs.Told.{ToldStands}
use Rattle.mesh_net.proofs.WatchLemmas.{AmidTelling}
use Rattle.mesh_net.proofs.watch.tell_all.Given as goal

abbrev pub invariant-loop-place : goal.invariant-loop-place
invariant-loop-place g l = record {
  told : (nodes : List NodeLog) (before : List RouteLine) → SeatsStand g.A.Algo.queries g.A.Algo.stands l.seats nodes → ToldStands l.initial.told before →
      AmidTelling (scenario_setup g.A.Algo.queries) l.now nodes before l.told l.initial.log l.log l.places (drop l.place-index l.places);
  grew : Grew l.initial.log l.log;
}
