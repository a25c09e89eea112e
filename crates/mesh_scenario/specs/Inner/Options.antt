-- The options of a `link` line, apart from where their texts lie, and what a call says that finds a
-- word to be none. No public clause cites this module.
use Rattle.std.specs.Prelude.{◌≡◌, Result, Some, IsErrAnd, option_map}
use Rattle.mesh_model.specs.declared.ending.Refusal.{Refusal}
use Rattle.mesh_model.specs.Scenario.LinkOptions.{LinkOptions}
use Rattle.mesh_model.specs.Scenario.Readings.{refused}
use Rattle.mesh_scenario.specs.LineErr.{reading_of}
use Rattle.mesh_scenario.specs.declared.line_err.LineErr.{LineErr}
use Rattle.mesh_scenario.specs.declared.options.LinkOptions.{LinkOptions as Lent}

-- options as the model names them
abbrev pub options_seen : Lent → LinkOptions
options_seen options = record {
  delay = options.delay;
  pattern = option_map (λ pattern. pattern.now) options.pattern;
  throughput = options.throughput;
}

-- what was read is a refusal, and this one
abbrev pub FailsOptions : Result LinkOptions Refusal → LineErr → Type 0
FailsOptions read error = IsErrAnd read (λ refusal. reading_of error ≡ Some (refused refusal))
