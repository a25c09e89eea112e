-- What a line that is read gives to print: names are words, and texts have no newline. The main
-- word is `ReadIsPlain`.
use Rattle.std.specs.Prelude.{◌≡◌, ℕ, List, [], ◌∷◌, Ok, ⊤}
use Rattle.mesh_model.specs.declared.line_form.Command.{Command}
use Rattle.mesh_model.specs.declared.line_form.Command.TheVariants.{Nothing, Algo, Node, Link, Lan, Frame, Gone, Join, Leave, Arp, Dhcp, Wifi, GwOff, GwServer, GwClient, Mcast, Dat, Frag, Vis, Alfred, Put, Get, Ping, Trace, Reboot, Run, Deliver, Show, Decode}
use Rattle.mesh_model.specs.Scenario.Commands.{command_of_line}
use Rattle.mesh_model.specs.Scenario.Lines.{content, lines_of}
use Rattle.mesh_laws.specs.Cuts.{IsUnbroken}
use Rattle.mesh_lines.specs.LineWords.{IsWord}

-- the names that a command gives are words, and its text has no newline
abbrev pub GivesPlain : Command → Type 0
GivesPlain Nothing = ⊤
GivesPlain (Algo algorithm) = ⊤
GivesPlain (Node name mac) = IsWord name
GivesPlain (Link from to delay pattern throughput) = ⊤
GivesPlain (Lan name gateways) = IsWord name
GivesPlain (Frame place src dst vid text) = IsUnbroken text
GivesPlain (Gone place key) = ⊤
GivesPlain (Join node key) = ⊤
GivesPlain (Leave node key) = ⊤
GivesPlain (Arp node mac own asked vid) = ⊤
GivesPlain (Dhcp node key text) = IsUnbroken text
GivesPlain (Wifi node on) = ⊤
GivesPlain (GwOff node) = ⊤
GivesPlain (GwServer node down up) = ⊤
GivesPlain (GwClient node policy) = ⊤
GivesPlain (Mcast node flags) = ⊤
GivesPlain (Dat node on) = ⊤
GivesPlain (Frag node longest) = ⊤
GivesPlain (Vis node on) = ⊤
GivesPlain (Alfred node mode) = ⊤
GivesPlain (Put node type_no version text) = IsUnbroken text
GivesPlain (Get node type_no) = ⊤
GivesPlain (Ping node target) = ⊤
GivesPlain (Trace node target) = ⊤
GivesPlain (Reboot node) = ⊤
GivesPlain (Run time) = ⊤
GivesPlain (Deliver number) = ⊤
GivesPlain (Show node table) = ⊤
GivesPlain (Decode bytes) = ⊤

-- so it is of every command that is read of a line without newlines
abbrev pub ReadIsPlain : Type 0
ReadIsPlain = (line : List ℕ) (command : Command) → IsUnbroken line →
    command_of_line line ≡ Ok command → GivesPlain command

-- what each line says has no newline
abbrev pub PlainContents : List (List ℕ) → Type 0
PlainContents [] = ⊤
PlainContents (line ∷ lines) = IsUnbroken (content line) × PlainContents lines

-- so it is of the lines of an input
abbrev pub InputLinesArePlain : Type 0
InputLinesArePlain = (input : List ℕ) → PlainContents (lines_of input)
