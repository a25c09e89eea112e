use Rattle.std.proofs.Common.{◌≡◌, List, length, take}
use Rattle.mesh_model.specs.declared.route_line.RoutePair.{RoutePair}
use Rattle.mesh_loops.specs.Changed.{pair_of}
use Rattle.mesh_loops.specs.Walks.{AreNoted, IsWay}
use Rattle.mesh_loops.proofs.watch.Watch.meet.Given as goal

abbrev pub invariant-loop : goal.invariant-loop
invariant-loop l =
    record {
      counted : l.first ≡ length l.fn.seen.keys;
      front : take l.first l.seen.keys ≡ l.fn.seen.keys;
      way : (heads : List RoutePair) → AreNoted l.self l.when heads l.fn.seen.keys → IsWay l.self l.when heads l.seen.keys l.start (pair_of l.start.orig l.node);
    }
