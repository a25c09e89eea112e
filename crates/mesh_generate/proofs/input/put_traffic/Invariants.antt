use Rattle.std.proofs.Common.{◌≡◌, ◌<◌, ◌++◌}
use Rattle.mesh_model.specs.Run.Generated.{drawn_after, traffic_lines}
use Rattle.mesh_generate.proofs.input.put_traffic.Given as goal

abbrev pub invariant-loop-second : goal.invariant-loop-second
invariant-loop-second l =
    (l.out.items ≡ l.fn.out.items ++ traffic_lines l.nodes l.second)
    × (l.x ≡ drawn_after l.nodes l.second) × (l.x < 2147483648)
