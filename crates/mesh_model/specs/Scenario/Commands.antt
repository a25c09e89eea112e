-- The reading of a line. A line without words, and a comment, does nothing. Any other line is of
-- the form that its first word begins. A line is refused by the first of these: a line of more
-- than 4,096 bytes passes the limit `line`; one that isn't UTF-8, `bad utf-8`, a comment too;
-- another first word, `unknown command`; then its words from left to right. The main word is
-- `command_of_line`.
use Rattle.std.specs.Prelude.{ℕ, ◌==◌, nat_lt, Bool, false, List, [], ◌∷◌, ◌++◌, length, codes, Ok, Err, if◌then◌else◌}
use Rattle.std.specs.Str.{is_utf8}
use Rattle.mesh_model.specs.declared.ending.LimitName.TheVariants.{Line}
use Rattle.mesh_model.specs.declared.ending.Refusal.TheVariants.{BadUtf8, UnknownCommand}
use Rattle.mesh_model.specs.declared.ending.Stop.TheVariants.{Limit}
use Rattle.mesh_model.specs.declared.line_form.Command.TheVariants.{Nothing}
use Rattle.mesh_model.specs.Scenario.Lines.{line_limit}
use Rattle.mesh_model.specs.Scenario.NetForms.{net_forms}
use Rattle.mesh_model.specs.Scenario.ClientForms.{client_forms}
use Rattle.mesh_model.specs.Scenario.SettingForms.{read_set}
use Rattle.mesh_model.specs.Scenario.AlfredForms.{read_alfred}
use Rattle.mesh_model.specs.Scenario.Readings.{Reading, refused, listed_form}
use Rattle.mesh_model.specs.Scenario.Words.{Word, line_words}

-- the forms that give a node, or a LAN, something, by their command words
abbrev pub node_forms : List (List ℕ × (List Word → Reading))
node_forms = client_forms ++ (codes "set", read_set) ∷ (codes "alfred", read_alfred) ∷ []

-- the form that a command word begins
abbrev pub read_form : List ℕ → List Word → Reading
read_form = listed_form (net_forms ++ node_forms) UnknownCommand

-- the code of the character that begins a comment: `#`
abbrev pub hash : ℕ
hash = 35

-- whether a word begins a comment
abbrev pub is_comment : List ℕ → Bool
is_comment [] = false
is_comment (first ∷ rest) = first == hash

-- the reading of a line's words
abbrev pub command_of_words : List Word → Reading
command_of_words [] = Ok Nothing
command_of_words (first ∷ rest) =
    if is_comment first.word then Ok Nothing else read_form first.word rest

-- the reading of what a line says
unfoldable pub command_of_line : List ℕ → Reading
command_of_line line =
    if nat_lt line_limit (length line) then Err (Limit Line)
    else if is_utf8 line then command_of_words (line_words line)
    else refused BadUtf8
