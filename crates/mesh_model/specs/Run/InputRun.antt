-- The run of an input, by what its lines are: the plain run of a scenario, or that of lines of
-- routes. Of it stands what it prints, how many lines and bytes were carried out, and where it
-- halts. The main word is `run_of`.
use Rattle.std.specs.Prelude.{ℕ, List, Option}
use Rattle.mesh_model.specs.declared.input_kind.InputKind.{InputKind}
use Rattle.mesh_model.specs.declared.input_kind.InputKind.TheVariants.{Scenario, Routes}
use Rattle.mesh_model.specs.Run.LoopRun.{LoopState, after_route_lines, loop_run}
use Rattle.mesh_model.specs.Run.PlainRun.{RunOf, after_lines, plain_run, start}
use Rattle.mesh_model.specs.Run.State.{text_of}
use Rattle.mesh_model.specs.Scenario.Halt.{Halt}

-- a run as it is seen from outside: what it prints, how many lines and bytes were carried out, and
-- where it halted
pub record InputRun : Type 0 where
  pub text : List ℕ
  pub lines : ℕ
  pub bytes : ℕ
  pub halt : Option Halt

-- a run from outside, by what a state has printed
abbrev pub seen : {S : Type 0} → (S → List ℕ) → RunOf S → InputRun
seen text run = record {
  text = text run.state;
  lines = run.lines;
  bytes = run.bytes;
  halt = run.halt;
}

-- what lines of routes have printed
abbrev pub loop_text : LoopState → List ℕ
loop_text state = state.printed

-- the run of an input
abbrev pub run_of : InputKind → List ℕ → InputRun
run_of (Scenario choice) input = seen text_of (plain_run choice input)
run_of Routes input = seen loop_text (loop_run input)

-- the run of the first lines of an input, which goes on
abbrev pub lines_run : InputKind → List (List ℕ) → InputRun
lines_run (Scenario choice) lines = seen text_of (after_lines (start choice) lines)
lines_run Routes lines = seen loop_text (after_route_lines lines)
