-- How far an input must have come for its run to halt: for a refused line the line's last byte, for
-- the limit `line` the byte past 4,096 of the line, for `input` the byte past 67,108,864 of the
-- input, for each other limit the last byte of its line. What has come goes on where its lines were
-- carried out and no limit is passed. The main words are `halting_byte` and `GoesOn`.
use Rattle.std.specs.Prelude.{◌≡◌, ℕ, ◌+◌, ◌-◌, ◌≤◌, not, List, [], length, filter, slice_index_or, None}
use Rattle.std.specs.List.{concat}
use Rattle.mesh_model.specs.declared.ending.LimitName.TheVariants.{Line, Input, Nodes, Links, Lans, Clients, Vlans, Cuts, Frames, FrameBytes, Clock, Pairs}
use Rattle.mesh_model.specs.declared.ending.Stop.{Stop}
use Rattle.mesh_model.specs.declared.ending.Stop.TheVariants.{Refused, Limit}
use Rattle.mesh_model.specs.declared.input_kind.InputKind.{InputKind}
use Rattle.mesh_model.specs.Scenario.Lines.{line_limit, input_limit, lines_of, is_complete, complete_lines}
use Rattle.mesh_model.specs.Scenario.Halt.{Halt}
use Rattle.mesh_model.specs.Run.InputRun.{lines_run, run_of}

-- how many bytes end at the one that makes a line halt the run, where so many stand before the line
abbrev pub halting_place : ℕ → List ℕ → Stop → ℕ
halting_place before line (Refused refusal) = before + length line
halting_place before line (Limit Line) = before + line_limit + 1
halting_place before line (Limit Input) = input_limit + 1
halting_place before line (Limit Nodes) = before + length line
halting_place before line (Limit Links) = before + length line
halting_place before line (Limit Lans) = before + length line
halting_place before line (Limit Clients) = before + length line
halting_place before line (Limit Vlans) = before + length line
halting_place before line (Limit Cuts) = before + length line
halting_place before line (Limit Frames) = before + length line
halting_place before line (Limit FrameBytes) = before + length line
halting_place before line (Limit Clock) = before + length line
halting_place before line (Limit Pairs) = before + length line

-- the line of an input with this number, from 1
abbrev pub numbered_line : List ℕ → ℕ → List ℕ
numbered_line input number = slice_index_or (lines_of input) (number - 1) []

-- how many bytes of an input end at the one at which its run halts
abbrev pub halting_byte : InputKind → List ℕ → Halt → ℕ
halting_byte kind input halt =
    halting_place (run_of kind input).bytes (numbered_line input halt.line) halt.stop

-- what has come of a line whose newline hasn't
abbrev pub unfinished_line : List ℕ → List ℕ
unfinished_line bytes = concat (filter (λ line. not (is_complete line)) (lines_of bytes))

-- no line of what has come halts the run, and neither does what has come of the next one
pub record GoesOn (kind : InputKind) (bytes : List ℕ) : Type 0 where
  pub going : (lines_run kind (complete_lines bytes)).halt ≡ None
  pub short : length (unfinished_line bytes) ≤ line_limit
  pub within : length bytes ≤ input_limit
