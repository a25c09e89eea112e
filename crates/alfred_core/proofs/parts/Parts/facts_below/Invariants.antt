use Rattle.std.proofs.Common.{◌≡◌, Some}
use Rattle.mesh_model.specs.Services.Transactions.{facts_below}
use Rattle.alfred_core.specs.Kept.{parts_in}
use Rattle.alfred_core.proofs.parts.Parts.facts_below.Given as goal

abbrev pub invariant-loop-number : goal.invariant-loop-number
invariant-loop-number l =
    facts_below (parts_in l.self-inside.kept.entries) l.number-counter ≡ Some l.facts
