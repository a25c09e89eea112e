-- The laws of the text that a run prints, over the first lines of any input, and any front of the
-- text: it is the lines of what was printed, and what its lines say of tables, frames and aliases is
-- right. The main words are `TextsAreLines`, `TextsShowCommits`, `TextsShowRightFrames` and
-- `TextsShowAliases`.
use Rattle.std.specs.Prelude.{◌≡◌, ℕ, List, ◌++◌}
use Rattle.mesh_model.specs.declared.frame_choice.FrameChoice.{FrameChoice}
use Rattle.mesh_model.specs.Run.PlainRun.{Run, after_lines, output, start}
use Rattle.mesh_model.specs.Scenario.Lines.{lines_of}
use Rattle.mesh_lines.specs.AliasText.{AliasLinesAreRight}
use Rattle.mesh_lines.specs.FrameText.{TableFramesAreRight}
use Rattle.mesh_lines.specs.ItemLines.{ArePlain, lines_printed}
use Rattle.mesh_lines.specs.TableText.{OkLinesAreCommitted}

-- lines are the first of an input
pub record AreFirst (input : List ℕ) (lines : List (List ℕ)) : Type 0 where
  pub later : List (List ℕ)
  pub of_input : lines_of input ≡ lines ++ later

-- a text is what the run of lines prints, or a front of it
pub record IsFrontOf (run : Run) (text : List ℕ) : Type 0 where
  pub rest : List ℕ
  pub is : output run ≡ text ++ rest

-- the names and the texts that are printed have no newline
abbrev pub PrintedIsPlain : Type 0
PrintedIsPlain = (choice : FrameChoice) (input : List ℕ) (lines : List (List ℕ)) →
    AreFirst input lines → ArePlain (after_lines (start choice) lines).state.printed

-- so the text is the lines of what was printed, one after the other
abbrev pub TextsAreLines : Type 0
TextsAreLines = (choice : FrameChoice) (input : List ℕ) (lines : List (List ℕ)) →
    AreFirst input lines →
    lines_of (output (after_lines (start choice) lines))
    ≡ lines_printed choice (after_lines (start choice) lines).state.printed

-- each line of an originator in agreement, in a text, is that of a commit
abbrev pub TextsShowCommits : Type 0
TextsShowCommits = (choice : FrameChoice) (input : List ℕ) (lines : List (List ℕ)) →
    AreFirst input lines → (text : List ℕ) → IsFrontOf (after_lines (start choice) lines) text →
    OkLinesAreCommitted choice lines text

-- each line of a frame by table, in a text, is of one that was sent rightly
abbrev pub TextsShowRightFrames : Type 0
TextsShowRightFrames = (choice : FrameChoice) (input : List ℕ) (lines : List (List ℕ)) →
    AreFirst input lines → (text : List ℕ) → IsFrontOf (after_lines (start choice) lines) text →
    TableFramesAreRight choice lines text

-- each line of an alias, in a text, is of a commit that has it, and each such commit has its line
abbrev pub TextsShowAliases : Type 0
TextsShowAliases = (choice : FrameChoice) (input : List ℕ) (lines : List (List ℕ)) →
    AreFirst input lines → (text : List ℕ) → IsFrontOf (after_lines (start choice) lines) text →
    AliasLinesAreRight choice lines text
