use Rattle.std.proofs.Common.{take}
use Rattle.mesh_loops.specs.Walks.{AreNoted}
use Rattle.mesh_loops.specs.Watch.{AreKept}
use Rattle.mesh_loops.proofs.PassedLemmas.{ArePassed}
use Rattle.mesh_loops.proofs.watch.Watch.heads.Given as goal

abbrev pub invariant-loop-pair : goal.invariant-loop-pair
invariant-loop-pair l =
    record {
      seen : AreKept l.self → AreNoted l.self l.when l.heads.keys l.seen.keys;
      passed : AreKept l.self → ArePassed l.self l.when l.heads.keys (take l.pair-index l.pair-items);
    }
