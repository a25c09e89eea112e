-- The words of a line, and the kinds of lines by their first letters: an originator's line begins
-- with `t` and a space, an entry's with `e` and a space, an alias' with `alias` and a space, and a
-- link frame's with `f`. No other line of what is printed begins so. The main words are `IsWord`
-- and `kind_of`.
use Rattle.std.specs.Prelude.{◌≡◌, ℕ, ◌==◌, ◌&&◌, not, ⊤, Bool, true, false, List, [], ◌∷◌, codes, if◌then◌else◌}
use Rattle.mesh_base.specs.declared.event.Event.{Event}
use Rattle.mesh_base.specs.declared.event.Event.TheVariants.{FrameSent, Received, LanSent, Bridged, Lost, Alias, Pinged, Traced, Arp, Alfred, Route}
use Rattle.mesh_base.specs.declared.event.FactResult.{FactResult}
use Rattle.mesh_base.specs.declared.event.FactResult.TheVariants.{Off, NoPrimary, Empty, Fact}
use Rattle.mesh_base.specs.declared.names.NodeName.{NodeName}
use Rattle.mesh_base.specs.Names.{NamesGiven}
use Rattle.mesh_model.specs.Net.Next.{Has}
use Rattle.mesh_laws.specs.Cuts.{IsUnbroken}
use Rattle.mesh_model.specs.Scenario.Lines.{newline}
use Rattle.mesh_model.specs.Scenario.Words.{space}

-- the code of `>`, which stands between the ends of a link frame
abbrev pub greater_sign : ℕ
greater_sign = 62

-- a byte that a word of a line may have
abbrev pub is_plain : ℕ → Bool
is_plain byte = not (byte == newline) && (not (byte == space) && not (byte == greater_sign))

-- every byte of a word is such
abbrev pub IsWord : List ℕ → Type 0
IsWord [] = Unit {0}
IsWord (byte ∷ rest) = (is_plain byte ≡ true) × IsWord rest

-- the names of nodes and of LANs are words
pub record AreNamed (names : NamesGiven) : Type 0 where
  pub nodes : (node : NodeName) → Has names.nodes node → IsWord node.name
  pub lans : (lan : List ℕ) → Has names.lans lan → IsWord lan

-- whether a line begins with these bytes
abbrev pub begins_with : List ℕ → List ℕ → Bool
begins_with [] line = true
begins_with (byte ∷ word) [] = false
begins_with (byte ∷ word) (first ∷ line) = (byte == first) && begins_with word line

-- the kinds of lines that the laws speak of
pub data LineKind : Type 0 where
  of_originator : LineKind
  of_entry : LineKind
  of_alias : LineKind
  of_frame : LineKind
  of_other : LineKind

-- the kind of a line
abbrev pub kind_of : List ℕ → LineKind
kind_of line =
    if begins_with (codes "t ") line then of_originator
    else if begins_with (codes "e ") line then of_entry
    else if begins_with (codes "alias ") line then of_alias
    else if begins_with (codes "f") line then of_frame
    else of_other

-- the kind of an event's line
abbrev pub event_kind : Event → LineKind
event_kind (FrameSent number moment from to reason bytes) = of_frame
event_kind (Received moment node vid src dst text) = of_other
event_kind (LanSent number moment lan bytes) = of_other
event_kind (Bridged moment lan vid src dst text) = of_other
event_kind (Lost moment node vid src dst reason) = of_other
event_kind (Alias node commit earlier) = of_alias
event_kind (Pinged node target seq result) = of_other
event_kind (Traced node target result) = of_other
event_kind (Arp node ip result) = of_other
event_kind (Alfred node type_no result) = of_other
event_kind (Route at node orig next) = of_other

-- the text of a fact that is told has no newline
abbrev pub HasPlainFact : FactResult → Type 0
HasPlainFact Off = ⊤
HasPlainFact NoPrimary = ⊤
HasPlainFact Empty = ⊤
HasPlainFact (Fact source version text) = IsUnbroken text

-- a text that an event tells has no newline
abbrev pub HasPlainText : Event → Type 0
HasPlainText (FrameSent number moment from to reason bytes) = ⊤
HasPlainText (Received moment node vid src dst text) = IsUnbroken text
HasPlainText (LanSent number moment lan bytes) = ⊤
HasPlainText (Bridged moment lan vid src dst text) = IsUnbroken text
HasPlainText (Lost moment node vid src dst reason) = ⊤
HasPlainText (Alias node commit earlier) = ⊤
HasPlainText (Pinged node target seq result) = ⊤
HasPlainText (Traced node target result) = ⊤
HasPlainText (Arp node ip result) = ⊤
HasPlainText (Alfred node type_no result) = HasPlainFact result
HasPlainText (Route at node orig next) = ⊤
