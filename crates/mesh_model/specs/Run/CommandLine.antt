-- The words of the call, after the program's name, as clap takes them: `--frames W`, where W is
-- `none`, `all`, `client`, `ogm` or `route` and chooses the link frames that are printed, `none`
-- where it isn't there; `--generate N`, where N is a number from 3 to 64; `--bisect`, by which the
-- lines are those of routes; and FILE. Each of them may stand once, in any order. An option's value
-- is the next word, or stands behind the option and a `=`; a word behind a first `--` is FILE
-- whatever its form. N and FILE don't stand together, and neither W nor N stands with `--bisect`.
-- Other words aren't taken, and no word asks for help or for a version. The lines come from N, from
-- FILE, or else from standard input. The main word is `words_of`.
use Rattle.std.specs.Prelude.{ℕ, pos, Bool, true, false, bytes_eq, codes, List, [], ◌∷◌, Option, Some, None, option_map, if◌then◌else◌}
use Rattle.std.specs.Option.{option_map_or}
use Rattle.std.specs.Str.Parse.{digits_value, without_leading_plus}
use Rattle.clap.specs.Simple.{on_top}
use Rattle.clap.specs.ValueTests.{is_unsigned_in}
use Rattle.clap.specs.Words.{App, Kinds, Row, Rule, fault_of, first_of, matches_of, new_app, new_rule, with_rule}
use Rattle.clap.specs.declared.builder.action.ArgAction.TheVariants.{Set, SetTrue}
use Rattle.clap.specs.declared.builder.value_parser.ValueParser.TheVariants.{Signed}
use Rattle.mesh_base.specs.Address.{option_both}
use Rattle.mesh_model.specs.declared.frame_choice.FrameChoice.{FrameChoice}
use Rattle.mesh_model.specs.declared.frame_choice.FrameChoice.TheVariants.{Hidden, All, Client, Ogm, Route}
use Rattle.mesh_model.specs.declared.input_kind.InputKind.{InputKind}
use Rattle.mesh_model.specs.declared.input_kind.InputKind.TheVariants.{Scenario, Routes}

-- from where the lines come: standard input, the file of a name, or the generator of a mesh of so
-- many nodes
pub data Source : Type 0 where
  FromInput : Source
  FromFile : List ℕ → Source
  Generated : ℕ → Source

-- what words ask for: what the lines are, and from where they come
pub record Invocation : Type 0 where
  pub kind : InputKind
  pub source : Source

-- ---- the command, as clap is told it

-- the fewest and the most nodes that are generated
abbrev pub least_nodes : ℕ
least_nodes = 3

abbrev pub most_nodes : ℕ
most_nodes = 64

-- `--frames W`: any text
abbrev pub frames_rule : Rule
frames_rule = record (new_rule (codes "frames")) {
  long = Some (codes "frames");
  action = Some Set;
}

-- `--generate N`: a number
abbrev pub generate_rule : Rule
generate_rule = record (new_rule (codes "generate")) {
  long = Some (codes "generate");
  action = Some Set;
  parser = Some (Signed (pos least_nodes) (pos most_nodes));
}

-- `--bisect`: a word alone
abbrev pub bisect_rule : Rule
bisect_rule = record (new_rule (codes "bisect")) {
  long = Some (codes "bisect");
  action = Some SetTrue;
}

-- FILE: the one word that is no option's
abbrev pub file_rule : Rule
file_rule = record (new_rule (codes "file")) { action = Some Set }

-- a command without arguments, whose first word isn't the program's name
abbrev pub bare_command : App
bare_command = on_top (λ top. record top { no_binary_name = true }) (new_app (codes "batmesh"))

-- the command
abbrev pub the_command : App
the_command = with_rule
    (with_rule (with_rule (with_rule bare_command frames_rule) generate_rule) bisect_rule) file_rule

-- ---- what its values say

-- the choice of a word
unfoldable pub choice_of_word : List ℕ → Option FrameChoice
choice_of_word word =
    if bytes_eq word (codes "none") then Some Hidden
    else if bytes_eq word (codes "all") then Some All
    else if bytes_eq word (codes "client") then Some Client
    else if bytes_eq word (codes "ogm") then Some Ogm
    else if bytes_eq word (codes "route") then Some Route
    else None

-- the choice where W is this, if it is there
abbrev pub choice_given : Option (List ℕ) → Option FrameChoice
choice_given None = Some Hidden
choice_given (Some word) = choice_of_word word

-- the number of nodes that a word names, after one `+` at most
unfoldable pub nodes_of_word : List ℕ → Option ℕ
nodes_of_word word =
    if is_unsigned_in least_nodes most_nodes word
    then Some (digits_value 10 (without_leading_plus word)) else None

-- the source where N and FILE are these, if they are there
abbrev pub source_given : Option (List ℕ) → Option (List ℕ) → Option Source
source_given None None = Some FromInput
source_given None (Some name) = Some (FromFile name)
source_given (Some word) None = option_map Generated (nodes_of_word word)
source_given (Some word) (Some name) = None

-- the call of what lines are and of their source
abbrev pub call_of_parts : InputKind → Source → Invocation
call_of_parts kind source = record { kind = kind; source = source }

-- the call for lines of a scenario, where W, N and FILE are these, if they are there
abbrev pub scenario_call : (frames nodes file : Option (List ℕ)) → Option Invocation
scenario_call frames nodes file = option_both call_of_parts
    (option_map Scenario (choice_given frames)) (source_given nodes file)

-- the call for lines of routes: neither W nor N is there
abbrev pub loop_call : (frames nodes file : Option (List ℕ)) → Option Invocation
loop_call None None file = option_map (call_of_parts Routes) (source_given None file)
loop_call None (Some word) file = None
loop_call (Some word) nodes file = None

-- the call by whether `--bisect` is there, and W, N and FILE
abbrev pub call_given : Bool → (frames nodes file : Option (List ℕ)) → Option Invocation
call_given true frames nodes file = loop_call frames nodes file
call_given false frames nodes file = scenario_call frames nodes file

-- whether the value of `--bisect` says that it is there
abbrev pub is_set : Option (List ℕ) → Bool
is_set value = option_map_or (bytes_eq (codes "true")) value false

-- the call of the values that clap found, by the names of their arguments
abbrev pub call_of_values : List Row → Option Invocation
call_of_values values = call_given (is_set (first_of (codes "bisect") values))
    (first_of (codes "frames") values) (first_of (codes "generate") values)
    (first_of (codes "file") values)

-- ---- the words

-- what clap lets through: where it finds no fault
abbrev pub unless_faulty : Kinds → Option Invocation → Option Invocation
unless_faulty [] call = call
unless_faulty (fault ∷ more) call = None

-- the call of words, where they are taken
unfoldable pub words_of : List (List ℕ) → Option Invocation
words_of words =
    unless_faulty (fault_of the_command words) (call_of_values (matches_of the_command words))

-- what the lines of a call are that is carried out: of generated ones no link frame is printed
abbrev pub kind_from : InputKind → Source → InputKind
kind_from kind FromInput = kind
kind_from kind (FromFile name) = kind
kind_from kind (Generated nodes) = Scenario Hidden

-- what the lines are that words ask for; where they aren't taken, none is carried out
abbrev pub kind_of : List (List ℕ) → InputKind
kind_of words =
    option_map_or (λ call. kind_from call.kind call.source) (words_of words) (Scenario Hidden)
