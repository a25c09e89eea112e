-- Where and why a run ended before the end of its input.
use Rattle.std.specs.Prelude.{ℕ}
use Rattle.mesh_model.specs.declared.ending.Stop.{Stop}

-- the number of a line, from 1, and what ended the run there
pub record Halt : Type 0 where
  pub line : ℕ
  pub stop : Stop
