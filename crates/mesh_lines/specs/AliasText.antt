-- What the text of a run says of aliases. Each whole line that begins with `alias` and a space is
-- `alias NAME K J`, of the commit of the number K that the node of that name made, whose alias is
-- J. Where a tick made the commit, it stands behind the lines of the ELP of the tick, where the
-- algorithm sends one, and before those of the tick's originator message; where a reboot made it,
-- it tells the only event of the scenario's line that reboots the node. And each commit that has an
-- alias has such a line: in the text or, where the text is cut before it, among those to come. The
-- main word is `AliasLinesAreRight`.
use Rattle.std.specs.Prelude.{◌≡◌, ◌≢◌, ℕ, List, [], ◌∷◌, ◌++◌, codes, slice_get, Some}
use Rattle.mesh_model.specs.declared.frame_choice.FrameChoice.{FrameChoice}
use Rattle.mesh_model.specs.Commits.History.{commits}
use Rattle.mesh_model.specs.Net.Mesh.{NodeLog}
use Rattle.mesh_model.specs.Net.Next.{Has}
use Rattle.mesh_model.specs.Routes.Algorithms.{queries_of}
use Rattle.mesh_model.specs.Run.PlainRun.{Run, after_lines, output, start}
use Rattle.mesh_model.specs.Run.State.{Printed, State}
use Rattle.mesh_model.specs.Scenario.Lines.{complete_lines, lines_of}
use Rattle.mesh_model.specs.Text.PacketLines.{line_of, named_number}
use Rattle.mesh_tie.specs.AliasesSeen.{HasAlias}
use Rattle.mesh_tie.specs.AliasesStand.{StandsInStep, events_in}
use Rattle.mesh_lines.specs.ItemLines.{lines_printed}
use Rattle.mesh_lines.specs.LineWords.{kind_of, of_alias}

-- the line of an alias, by the name of its node
abbrev pub alias_line : List ℕ → (number earlier : ℕ) → List ℕ
alias_line name number earlier = line_of
    (codes "alias " ∷ name ∷ named_number (codes " ") number
    ∷ named_number (codes " ") earlier ∷ [])

-- a commit of a node that a state has is an alias
pub record IsAliasIn (state : State) (node : NodeLog) (number earlier : ℕ) : Type 0 where
  pub place : ℕ
  pub found : slice_get state.mesh.nodes place ≡ Some node
  pub has : HasAlias (commits node.mac node.log) number earlier

-- a line between others is that of an alias that a node of the run has; the lines before it are
-- those of what was printed before, and those behind it go on with what was printed then, and the
-- events there are those before and behind the alias in the step that made its commit
pub record TellsOfAlias (choice : FrameChoice) (lines before : List (List ℕ)) (line : List ℕ)
    (after : List (List ℕ)) : Type 0 where
  pub node : NodeLog
  pub number : ℕ
  pub earlier : ℕ
  pub line_is : line ≡ alias_line node.name number earlier
  pub is_alias : IsAliasIn (after_lines (start choice) lines).state node number earlier
  pub printed_before : List Printed
  pub before_is : before ≡ lines_printed choice printed_before
  pub printed_behind : List Printed
  pub later : List (List ℕ)
  pub after_is : lines_printed choice printed_behind ≡ after ++ later
  pub in_step : StandsInStep (queries_of (after_lines (start choice) lines).state.algorithm)
      node.log (events_in printed_before) node.mac number earlier (events_in printed_behind)

-- a line stands in a text that a run prints or, where this is cut before it, is one to come
pub data StandsOrFollows (run : Run) (text line : List ℕ) : Type 0 where
  stands : Has (complete_lines text) line → StandsOrFollows run text line
  follows : text ≢ output run → (later : List (List ℕ)) →
      lines_of (output run) ≡ complete_lines text ++ later → Has later line →
      StandsOrFollows run text line

-- what a text that the run of some lines prints says of aliases
pub record AliasLinesAreRight (choice : FrameChoice) (lines : List (List ℕ)) (text : List ℕ)
    : Type 0 where
  pub told : (before : List (List ℕ)) (line : List ℕ) (after : List (List ℕ)) →
      complete_lines text ≡ before ++ line ∷ after → kind_of line ≡ of_alias →
      TellsOfAlias choice lines before line after
  pub each : (node : NodeLog) (number earlier : ℕ) →
      IsAliasIn (after_lines (start choice) lines).state node number earlier →
      StandsOrFollows (after_lines (start choice) lines) text
      (alias_line node.name number earlier)
