-- What is said of a small scenario: its output, and that it runs to its end or where it halts.
use Rattle.std.specs.Prelude.{◌≡◌, ℕ, List, [], ◌∷◌, ◌++◌, flat_map, codes, Some, None}
use Rattle.mesh_model.specs.declared.ending.Stop.{Stop}
use Rattle.mesh_model.specs.declared.frame_choice.FrameChoice.TheVariants.{Hidden}
use Rattle.mesh_model.specs.Scenario.Lines.{newline}
use Rattle.mesh_model.specs.Run.PlainRun.{plain_run, output}

-- lines as bytes, each with its newline
abbrev pub lines : List (List ℕ) → List ℕ
lines texts = flat_map (λ text. text ++ newline ∷ []) texts

-- without words, the scenario runs to its end and prints this
abbrev pub RunsToItsEnd : List ℕ → List ℕ → Type 0
RunsToItsEnd scenario printed =
    ((plain_run Hidden scenario).halt ≡ None) × (output (plain_run Hidden scenario) ≡ printed)

-- without words, the scenario prints this and halts at a line
abbrev pub HaltsAt : List ℕ → List ℕ → ℕ → Stop → Type 0
HaltsAt scenario printed line stop =
    ((plain_run Hidden scenario).halt ≡ Some (record { line = line; stop = stop }))
    × (output (plain_run Hidden scenario) ≡ printed)

-- the lines of one node that saw one client
abbrev pub one_client : List (List ℕ)
one_client =
    codes "node A 02:00:00:00:00:0a" ∷ codes "frame A 02:00:00:00:01:01 ff:ff:ff:ff:ff:ff - hi" ∷ []

-- the lines of its local table
abbrev pub one_row : List (List ℕ)
one_row = codes "tl A version=0 clients=1" ∷ codes "c 02:00:00:00:01:01 - -- age=0" ∷ []
