use Rattle.std.proofs.Common.{◌≡◌, take}
use Rattle.mesh_messages.specs.LentFacts.{lent_facts}
use Rattle.node_facts.proofs.lists.lend.Given as goal

abbrev pub invariant-loop-i : goal.invariant-loop-i
invariant-loop-i l = lent_facts l.facts.items ≡ take l.i l.list
