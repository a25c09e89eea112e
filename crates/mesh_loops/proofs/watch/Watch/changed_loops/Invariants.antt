use Rattle.std.proofs.Common.{◌≡◌, ◌++◌, drop}
use Rattle.mesh_loops.specs.Changed.{changed_loops}
use Rattle.mesh_loops.proofs.watch.Watch.changed_loops.Given as goal

abbrev pub invariant-loop-head : goal.invariant-loop-head
invariant-loop-head l =
    changed_loops l.self l.when l.head-items ≡ l.loops ++ changed_loops l.self l.when (drop l.head-index l.head-items)
