use Rattle.std.proofs.Common.{◌≡◌, ◌-◌, ◌++◌, length, option_map}
use Rattle.mesh_model.specs.Loops.Routes.{walk_to}
use Rattle.mesh_loops.specs.Changed.{found_from, nexts_at}
use Rattle.mesh_loops.proofs.watch.Watch.walk.Given as goal

abbrev pub invariant-loop : goal.invariant-loop
invariant-loop l =
    (found_from l.self l.when l.start ≡ option_map (λ rest. l.nodes ++ rest) (walk_to (nexts_at l.self l.when l.start.orig) l.start.node (l.end - l.counter) l.node)) × (l.end ≡ length l.self.routes)
