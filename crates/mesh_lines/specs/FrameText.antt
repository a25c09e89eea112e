-- What the text of a run says of frames that are sent by table. Where a whole line is that of a
-- link frame with `by=table`, and no line before it tells of an alias of a node, the node of the
-- name that stands there as its sender sent those bytes at that moment, and where they go to the
-- other node, its commit, as the sender was told last then, names the client. The main word is
-- `TableFramesAreRight`.
use Rattle.std.specs.Prelude.{◌≡◌, ◌<◌, ◌^◌, ℕ, List, [], ◌∷◌, ◌++◌, codes, Some}
use Rattle.hex.specs.Hex.{encode_lower}
use Rattle.mesh_base.specs.declared.address.Mac.{Mac}
use Rattle.mesh_base.specs.declared.event.Reason.TheVariants.{Table}
use Rattle.mesh_model.specs.declared.frame_choice.FrameChoice.{FrameChoice}
use Rattle.mesh_model.specs.Run.PlainRun.{after_lines, start}
use Rattle.mesh_model.specs.Scenario.Lines.{complete_lines}
use Rattle.mesh_model.specs.Text.Events.{by_text, kind_word, name_text}
use Rattle.mesh_model.specs.Text.PacketLines.{line_of, named_number}
use Rattle.mesh_tie.specs.LinesByTable.{SentRightlyIn}
use Rattle.mesh_lines.specs.LineWords.{IsWord}
use Rattle.mesh_lines.specs.TableText.{AreBytes, TellNoAlias, names_behind}

-- the line of a link frame that is sent by table, by the names of its ends
abbrev pub table_frame_line : (number moment : ℕ) → (from to bytes : List ℕ) → List ℕ
table_frame_line number moment from to bytes = line_of
    (named_number (codes "f") number ∷ named_number (codes " ") moment
    ∷ codes " " ∷ from ∷ codes ">" ∷ to
    ∷ codes " " ∷ kind_word bytes ∷ by_text (Some Table) ∷ codes " " ∷ encode_lower bytes ∷ [])

-- the node of a name sent bytes by table at a moment, rightly
pub record SentByName (choice : FrameChoice) (lines : List (List ℕ)) (orig : Mac) (moment : ℕ)
    (from bytes : List ℕ) : Type 0 where
  pub me : Mac
  pub named : name_text (names_behind choice lines) me ≡ from
  pub sent : SentRightlyIn (after_lines (start choice) lines) orig moment me bytes

-- each whole line of a link frame that was sent by table, in a text that the run of some lines
-- prints
abbrev pub TableFramesAreRight : FrameChoice → List (List ℕ) → List ℕ → Type 0
TableFramesAreRight choice lines text =
    (before after : List (List ℕ)) (number moment : ℕ) (from to bytes : List ℕ) →
    complete_lines text ≡ before ++ table_frame_line number moment from to bytes ∷ after →
    moment < 2 ^ 64 → IsWord from → IsWord to → AreBytes bytes →
    (orig : Mac) → TellNoAlias (names_behind choice lines) orig before →
    SentByName choice lines orig moment from bytes
