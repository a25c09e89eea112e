use Rattle.std.proofs.Common.{◌≡◌, ◌+◌, length, drop}
use Rattle.std.specs.Prelude.{flat_map}
use Rattle.mesh_model.specs.Packets.FactMessages.{fact_spelling}
use Rattle.mesh_messages.specs.LentFacts.{lent_facts}
use Rattle.mesh_messages.proofs.part_writing.facts_size.Given as goal

abbrev pub invariant-loop-fact : goal.invariant-loop-fact
invariant-loop-fact l =
    l.size + length (flat_map fact_spelling (lent_facts (drop l.fact-index l.facts))) ≡ length (flat_map fact_spelling (lent_facts l.facts))
