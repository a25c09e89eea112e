use Rattle.std.proofs.Common.{◌≡◌, ◌+◌, drop}
use Rattle.mesh_messages.specs.LentFacts.{lent_facts}
use Rattle.mesh_model.specs.Services.Parts.{fitting, part_room}
use Rattle.mesh_messages.proofs.parts.fitting.Given as goal

abbrev pub invariant-loop-count : goal.invariant-loop-count
invariant-loop-count l =
    fitting part_room (lent_facts l.facts) ≡ l.count + fitting l.room (lent_facts (drop l.count l.facts))
