-- Where a line of what is printed comes from: an originator's line from its part of a table that is
-- shown, with the lines of its entries behind it; a link frame's and an alias' from their event.
-- The main words are `IsOfPart` and `IsOfEvent`.
use Rattle.std.specs.Prelude.{◌≡◌, ℕ, List, ◌∷◌, ◌++◌, length, flat_map, map, true}
use Rattle.mesh_base.specs.declared.event.Event.{Event}
use Rattle.mesh_base.specs.Names.{NamesGiven}
use Rattle.mesh_model.specs.declared.frame_choice.FrameChoice.{FrameChoice}
use Rattle.mesh_model.specs.Run.State.{Printed, GlobalsShown, Happened}
use Rattle.mesh_model.specs.Text.Events.{event_line, is_shown}
use Rattle.mesh_model.specs.Text.GlobalTables.{GlobalPart, GlobalTable, entry_line, global_line}
use Rattle.mesh_lines.specs.ItemLines.{ArePlain, global_first, lines_printed, part_lines}
use Rattle.mesh_lines.specs.LineWords.{event_kind, kind_of, of_alias, of_frame, of_originator}

-- a line between others is that of an originator in a table that was printed
pub record IsOfPart (choice : FrameChoice) (printed : List Printed) (before : List (List ℕ))
    (line : List ℕ) (after : List (List ℕ)) : Type 0 where
  pub earlier : List Printed
  pub table : GlobalTable
  pub later : List Printed
  pub printed_is : printed ≡ earlier ++ GlobalsShown table ∷ later
  pub front : List GlobalPart
  pub part : GlobalPart
  pub back : List GlobalPart
  pub parts_are : table.parts ≡ front ++ part ∷ back
  pub line_is : line ≡ global_line part.row (length part.entries)
  pub before_is : before
      ≡ lines_printed choice earlier ++ global_first table ∷ flat_map part_lines front
  pub behind : List (List ℕ)
  pub after_is : after ≡ map entry_line part.entries ++ behind

-- a line between others is that of an event that was printed
pub record IsOfEvent (choice : FrameChoice) (printed : List Printed) (before : List (List ℕ))
    (line : List ℕ) (after : List (List ℕ)) : Type 0 where
  pub earlier : List Printed
  pub names : NamesGiven
  pub event : Event
  pub later : List Printed
  pub printed_is : printed ≡ earlier ++ Happened names event ∷ later
  pub shown : is_shown choice event ≡ true
  pub line_is : line ≡ event_line names event
  pub kind_is : event_kind event ≡ kind_of line
  pub before_is : before ≡ lines_printed choice earlier
  pub after_is : after ≡ lines_printed choice later

-- each originator's line is so
abbrev pub OriginatorsHaveOneSource : Type 0
OriginatorsHaveOneSource = (choice : FrameChoice) (printed : List Printed) → ArePlain printed →
    (before : List (List ℕ)) (line : List ℕ) (after : List (List ℕ)) →
    lines_printed choice printed ≡ before ++ line ∷ after → kind_of line ≡ of_originator →
    IsOfPart choice printed before line after

-- each link frame's line is so
abbrev pub FramesHaveOneSource : Type 0
FramesHaveOneSource = (choice : FrameChoice) (printed : List Printed) → ArePlain printed →
    (before : List (List ℕ)) (line : List ℕ) (after : List (List ℕ)) →
    lines_printed choice printed ≡ before ++ line ∷ after → kind_of line ≡ of_frame →
    IsOfEvent choice printed before line after

-- each alias' line is so
abbrev pub AliasesHaveOneSource : Type 0
AliasesHaveOneSource = (choice : FrameChoice) (printed : List Printed) → ArePlain printed →
    (before : List (List ℕ)) (line : List ℕ) (after : List (List ℕ)) →
    lines_printed choice printed ≡ before ++ line ∷ after → kind_of line ≡ of_alias →
    IsOfEvent choice printed before line after
