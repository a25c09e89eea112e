use Rattle.std.proofs.Common.{◌≡◌, ◌++◌, take}
use Rattle.mesh_model.specs.Loops.Reports.{nodes_text}
use Rattle.batctl_text.proofs.route_lines.put_nodes.Given as goal

abbrev pub invariant-loop-node : goal.invariant-loop-node
invariant-loop-node l = l.line ≡ l.initial.line ++ nodes_text (take l.node-index l.nodes)
