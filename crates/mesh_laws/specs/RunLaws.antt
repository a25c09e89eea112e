-- What holds of every plain run: its lines may be carried out one after another, its output only
-- grows, and it stays as it is once it halted.
use Rattle.std.specs.Prelude.{◌≡◌, ℕ, List, ◌++◌, IsSome}
use Rattle.std.specs.List.{concat}
use Rattle.mesh_laws.specs.Cuts.{AreLines}
use Rattle.mesh_model.specs.declared.frame_choice.FrameChoice.{FrameChoice}
use Rattle.mesh_model.specs.Scenario.Lines.{lines_of}
use Rattle.mesh_model.specs.Run.PlainRun.{Run, start, after_line, after_lines, plain_run, output}

-- the run of whole lines and of what follows them is the run of the lines, and then that of what
-- follows
abbrev pub LinesOneAfterAnother : Type 0
LinesOneAfterAnother = (choice : FrameChoice) (lines : List (List ℕ)) (rest : List ℕ) →
    AreLines lines → plain_run choice (concat lines ++ rest)
    ≡ after_lines (after_lines (start choice) lines) (lines_of rest)

-- what was printed before a line stays, and more may follow it
abbrev pub OutputGrows : Type 0
OutputGrows = (run : Run) (line : List ℕ) →
    (printed : List ℕ) × (output (after_line run line) ≡ output run ++ printed)

-- a run that halted carries no further line out
abbrev pub HaltStays : Type 0
HaltStays = (run : Run) (lines : List (List ℕ)) → IsSome run.halt → after_lines run lines ≡ run
