use Rattle.std.proofs.Common.{◌≡◌, take}
use Rattle.mesh_model.specs.Scenario.Terms.{digits_value}
use Rattle.mesh_model.specs.Scenario.Fields.{kept_number}
use Rattle.mesh_scenario.proofs.terms.number.Given as goal

abbrev pub invariant-loop-digit : goal.invariant-loop-digit
invariant-loop-digit l = l.value ≡ kept_number (digits_value (take l.digit-index l.word))
