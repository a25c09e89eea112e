use Rattle.std.proofs.Common.{◌≡◌, ◌++◌}
use Rattle.mesh_model.specs.Run.Generated.{node_lines}
use Rattle.mesh_generate.proofs.input.put_nodes.Given as goal

abbrev pub invariant-loop-place : goal.invariant-loop-place
invariant-loop-place l = l.out.items ≡ l.fn.out.items ++ node_lines l.place
