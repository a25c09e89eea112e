use Rattle.std.proofs.Common.{◌≡◌, ◌++◌}
use Rattle.mesh_model.specs.Run.Generated.{ring_lines}
use Rattle.mesh_generate.proofs.input.put_ring.Given as goal

abbrev pub invariant-loop-place : goal.invariant-loop-place
invariant-loop-place l = l.out.items ≡ l.fn.out.items ++ ring_lines l.nodes l.place
