-- The printed table of what a node knows of the others' clients (`show NODE tg`): a line
-- `tg NODE count=C`; for each live originator that announced something, by address, a line
-- `t MAC held=B told=B state=S entries=E` with a line `e MAC VID FF` for each entry that is held;
-- at the end a line `r MAC VID to=MAC` for each mark that stands. C counts the originators. Where
-- nothing is held, it is `held=-` and `state=none`; else the state is `ok` where what is held
-- agrees with what was told, and `old` where it doesn't. The main word is `global_table_text`.
use Rattle.std.specs.Prelude.{ℕ, ◌∷◌, Bool, true, false, List, [], ◌++◌, length, flat_map, codes, decimal, Option, Some, None}
use Rattle.mesh_base.specs.declared.address.Mac.{Mac}
use Rattle.mesh_base.specs.declared.client.Entry.{Entry}
use Rattle.mesh_base.specs.declared.client.Key.{Key}
use Rattle.mesh_model.specs.declared.table_row.GlobalRow.{GlobalRow}
use Rattle.mesh_model.specs.Text.PacketLines.{line_of, named_number, named_address}
use Rattle.mesh_model.specs.Text.Tables.{flags_text, vid_text}

-- what is known of an originator: its row, and the entries that are held
pub record GlobalPart : Type 0 where
  pub row : GlobalRow
  pub entries : List Entry

-- what a node knows: its name, a part for each originator, and the clients that are marked, each
-- with its target
pub record GlobalTable : Type 0 where
  pub name : List ℕ
  pub parts : List GlobalPart
  pub marks : List (Key × Mac)

-- a byte, or `-` for none
abbrev pub byte_text : Option ℕ → List ℕ
byte_text None = codes "-"
byte_text (Some byte) = decimal byte

-- the word of agreement
abbrev pub agreement_word : Bool → List ℕ
agreement_word true = codes "ok"
agreement_word false = codes "old"

-- the word of what is held, by whether it agrees
abbrev pub state_word : Option ℕ → Bool → List ℕ
state_word None agrees = codes "none"
state_word (Some byte) agrees = agreement_word agrees

-- the line of an originator of which so many entries are held
unfoldable pub global_line : GlobalRow → ℕ → List ℕ
global_line row entries = line_of
    (named_address (codes "t ") row.orig ∷ codes " held=" ∷ byte_text row.held
    ∷ named_number (codes " told=") row.told ∷ codes " state=" ∷ state_word row.held row.ok
    ∷ named_number (codes " entries=") entries ∷ [])

-- the line of an entry
unfoldable pub entry_line : Entry → List ℕ
entry_line entry = line_of
    (named_address (codes "e ") entry.key.mac ∷ codes " " ∷ vid_text entry.key.vid
    ∷ codes " " ∷ flags_text entry.flags ∷ [])

-- the line of a mark
unfoldable pub mark_line : Key × Mac → List ℕ
mark_line mark = line_of
    (named_address (codes "r ") mark.0.mac ∷ codes " " ∷ vid_text mark.0.vid
    ∷ named_address (codes " to=") mark.1 ∷ [])

-- an originator's line and those of its entries
abbrev pub part_text : GlobalPart → List ℕ
part_text part =
    global_line part.row (length part.entries) ++ flat_map entry_line part.entries

-- the first line
unfoldable pub global_header : List ℕ → ℕ → List ℕ
global_header name count =
    line_of (codes "tg " ∷ name ∷ named_number (codes " count=") count ∷ [])

-- the table as it is printed
abbrev pub global_table_text : GlobalTable → List ℕ
global_table_text table = global_header table.name (length table.parts)
    ++ flat_map part_text table.parts ++ flat_map mark_line table.marks
