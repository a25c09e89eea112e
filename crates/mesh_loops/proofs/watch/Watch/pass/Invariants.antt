use Rattle.std.proofs.Common.{List}
use Rattle.mesh_model.specs.declared.route_line.RoutePair.{RoutePair}
use Rattle.mesh_loops.specs.Changed.{pair_of}
use Rattle.mesh_loops.specs.Walks.{AreNoted, IsWay}
use Rattle.mesh_loops.proofs.watch.Watch.pass.Given as goal

abbrev pub invariant-loop-step : goal.invariant-loop-step
invariant-loop-step l =
    (heads seen : List RoutePair) → AreNoted l.self l.when heads seen → IsWay l.self l.when heads seen l.start (pair_of l.start.orig l.node)
