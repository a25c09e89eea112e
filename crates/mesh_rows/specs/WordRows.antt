-- What is said of the words of a call: what they ask for, or that they aren't taken.
use Rattle.std.specs.Prelude.{◌≡◌, ℕ, List, Some, None}
use Rattle.mesh_model.specs.declared.frame_choice.FrameChoice.{FrameChoice}
use Rattle.mesh_model.specs.declared.input_kind.InputKind.TheVariants.{Scenario, Routes}
use Rattle.mesh_model.specs.Run.CommandLine.{Source, words_of}

-- the words are taken, and ask for a scenario from this source, with these link frames
abbrev pub AskFor : List (List ℕ) → FrameChoice → Source → Type 0
AskFor words choice source =
    words_of words ≡ Some (record { kind = Scenario choice; source = source })

-- the words are taken, and ask for the loops of lines of routes from this source
abbrev pub AskForLoops : List (List ℕ) → Source → Type 0
AskForLoops words source = words_of words ≡ Some (record { kind = Routes; source = source })

-- the words aren't taken
abbrev pub AreNotTaken : List (List ℕ) → Type 0
AreNotTaken words = words_of words ≡ None
