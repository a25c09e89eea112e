use Rattle.std.proofs.Common.{sym, ◌∙◌, arith}
use Rattle.std.proofs.lemmas.Grind.{common_steps}
use Rattle.mesh_messages.proofs.FactLemmas.{none_are_facts}
use Rattle.mesh_messages.proofs.facts.are_facts.Goals as goal

pub returns : goal.returns
returns c = sym (none_are_facts c.loop-left.left.now (grind (arith, common_steps))) ∙ c.loop-left.invariant
