use Rattle.std.proofs.Common.{◌≡◌, ◌++◌, length, take, drop}
use Rattle.std.specs.Prelude.{flat_map}
use Rattle.mesh_model.specs.Packets.FactMessages.{fact_spelling}
use Rattle.mesh_messages.specs.LentFacts.{FitPart, lent_facts}
use Rattle.mesh_messages.specs.Writing.{HasRoom}
use Rattle.mesh_messages.proofs.part_writing.put_facts.Given as goal

abbrev pub invariant-loop-fact : goal.invariant-loop-fact
invariant-loop-fact l = record {
  put : l.out.items ≡ l.initial.out.items ++ flat_map fact_spelling (lent_facts (take l.fact-index l.facts));
  fits : FitPart (lent_facts (drop l.fact-index l.facts));
  room : HasRoom l.out (length (flat_map fact_spelling (lent_facts (drop l.fact-index l.facts))));
}
