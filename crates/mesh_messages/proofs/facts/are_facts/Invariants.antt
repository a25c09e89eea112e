use Rattle.std.proofs.Common.{◌≡◌, is_some, length}
use Rattle.mesh_model.specs.Packets.FactMessages.{facts_of}
use Rattle.mesh_messages.proofs.facts.are_facts.Given as goal

abbrev pub invariant-loop-left : goal.invariant-loop-left
invariant-loop-left l = is_some (facts_of l.left) ≡ is_some (facts_of l.bytes)

abbrev pub decreases-loop-left : goal.decreases-loop-left
decreases-loop-left l = length l.left
