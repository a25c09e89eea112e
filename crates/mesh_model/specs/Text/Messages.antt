-- What is written to the error output for each status other than 0, a line each:
-- `batmesh: line N: REASON`, `batmesh: line N: limit NAME`, `batmesh: usage`,
-- `batmesh: read fault`, `batmesh: write fault` and `batmesh: out of memory`. The main word is
-- `halt_text`.
use Rattle.std.specs.Prelude.{ℕ, List, [], ◌∷◌, ◌++◌, codes, decimal}
use Rattle.mesh_model.specs.declared.ending.LimitName.{LimitName}
use Rattle.mesh_model.specs.declared.ending.LimitName.TheVariants.{Line, Input, Nodes, Links, Lans, Clients, Vlans, Cuts, Frames, FrameBytes, Clock, Pairs}
use Rattle.mesh_model.specs.declared.ending.Refusal.{Refusal}
use Rattle.mesh_model.specs.declared.ending.Refusal.TheVariants.{BadUtf8, UnknownCommand, MissingWord, BadName, BadMac, BadNumber, OutOfRange, ExtraWord, UnknownName, WrongKind, NameTaken, AddressTaken, SameNode, LinkTaken, AlgoAfterNode, NoSuchFrame, Attached, BadRoute, TimeBack}
use Rattle.mesh_model.specs.declared.ending.Stop.{Stop}
use Rattle.mesh_model.specs.declared.ending.Stop.TheVariants.{Refused, Limit}
use Rattle.mesh_model.specs.Scenario.Lines.{newline}
use Rattle.mesh_model.specs.Scenario.Halt.{Halt}

-- the words of a refusal
abbrev pub refusal_words : Refusal → List ℕ
refusal_words BadUtf8 = codes "bad utf-8"
refusal_words UnknownCommand = codes "unknown command"
refusal_words MissingWord = codes "missing word"
refusal_words BadName = codes "bad name"
refusal_words BadMac = codes "bad mac"
refusal_words BadNumber = codes "bad number"
refusal_words OutOfRange = codes "out of range"
refusal_words ExtraWord = codes "extra word"
refusal_words UnknownName = codes "unknown name"
refusal_words WrongKind = codes "wrong kind"
refusal_words NameTaken = codes "name taken"
refusal_words AddressTaken = codes "address taken"
refusal_words SameNode = codes "same node"
refusal_words LinkTaken = codes "link taken"
refusal_words AlgoAfterNode = codes "algo after node"
refusal_words NoSuchFrame = codes "no such frame"
refusal_words Attached = codes "attached"
refusal_words BadRoute = codes "bad route"
refusal_words TimeBack = codes "time back"

-- the name of a limit
abbrev pub limit_words : LimitName → List ℕ
limit_words Line = codes "line"
limit_words Input = codes "input"
limit_words Nodes = codes "nodes"
limit_words Links = codes "links"
limit_words Lans = codes "lans"
limit_words Clients = codes "clients"
limit_words Vlans = codes "vlans"
limit_words Cuts = codes "cuts"
limit_words Frames = codes "frames"
limit_words FrameBytes = codes "frame-bytes"
limit_words Clock = codes "clock"
limit_words Pairs = codes "pairs"

-- the words of a stop
abbrev pub stop_words : Stop → List ℕ
stop_words (Refused refusal) = refusal_words refusal
stop_words (Limit name) = codes "limit " ++ limit_words name

-- the text for a run that halted
unfoldable pub halt_text : Halt → List ℕ
halt_text halt =
    codes "batmesh: line " ++ decimal halt.line ++ codes ": " ++ stop_words halt.stop
    ++ newline ∷ []

-- the text for words that aren't taken
abbrev pub usage_text : List ℕ
usage_text = codes "batmesh: usage" ++ newline ∷ []

-- the text for a fault of the input
abbrev pub read_fault_text : List ℕ
read_fault_text = codes "batmesh: read fault" ++ newline ∷ []

-- the text for a fault of the output
abbrev pub write_fault_text : List ℕ
write_fault_text = codes "batmesh: write fault" ++ newline ∷ []

-- the text for want of memory
abbrev pub memory_text : List ℕ
memory_text = codes "batmesh: out of memory" ++ newline ∷ []
