-- What a run of the program leaves, by its status: what out took since the call, and what was read
-- from the intake. The main words are `Finishes`, `IsRefused`, `IsLimited`, `PrintsTaken`,
-- `PrintsLessOf` and `PrintsFrontOf`, each over what the lines are and the bytes of the input,
-- `PrintsSummary` for lines that are generated, `TellsStatus`, and `PrintsRightly`, which holds at
-- every status.
use Rattle.std.specs.Prelude.{◌≡◌, ◌≢◌, ℕ, ◌+◌, ◌<◌, ◌≤◌, ◌⊎◌, List, length, take, Option, Some, None, IfSome, option_and_then}
use Rattle.std.specs.Io.KnownBytes.{Appends, Consumes, Keeps}
use Rattle.mesh_base.specs.Writes.{AppendsFront}
use Rattle.mesh_model.specs.declared.ending.LimitName.{LimitName}
use Rattle.mesh_model.specs.declared.ending.Refusal.{Refusal}
use Rattle.mesh_model.specs.declared.ending.Stop.TheVariants.{Refused, Limit}
use Rattle.mesh_model.specs.declared.frame_choice.FrameChoice.{FrameChoice}
use Rattle.mesh_model.specs.declared.input_kind.InputKind.{InputKind}
use Rattle.mesh_model.specs.declared.input_kind.InputKind.TheVariants.{Scenario, Routes}
use Rattle.mesh_model.specs.Scenario.Halt.{Halt}
use Rattle.mesh_model.specs.Scenario.Lines.{complete_lines}
use Rattle.mesh_model.specs.Text.Messages.{halt_text, memory_text, read_fault_text, usage_text, write_fault_text}
use Rattle.mesh_model.specs.Run.CommandLine.{Invocation, Source, FromInput, FromFile, Generated}
use Rattle.mesh_model.specs.Run.Generated.{generated_input, generated_text}
use Rattle.mesh_model.specs.Run.Halting.{GoesOn, halting_byte}
use Rattle.mesh_model.specs.Run.InputRun.{lines_run, run_of}
use Rattle.mesh_model.specs.Run.PlainRun.{after_lines, start}
use Rattle.mesh_model.specs.Run.Statuses.{finished_status, limited_status, memory_status, read_fault_status, refused_status, stop_status, usage_status, write_fault_status}
use Rattle.mesh_lines.specs.AliasText.{AliasLinesAreRight}
use Rattle.mesh_lines.specs.FrameText.{TableFramesAreRight}
use Rattle.mesh_lines.specs.TableText.{OkLinesAreCommitted}
use Rattle.mesh_lines.specs.TextLaws.{AreFirst, IsFrontOf}
use Rattle.mesh_tie.specs.CutPackets.{RunPacketsWereCut}
use Rattle.mesh_tie.specs.ShownPictures.{RunShowsPictures}

-- ---- the lines that words ask for

-- what an intake gives under each name, and without one as standard input, where it is told
abbrev pub Names : Type 0
Names = Option (List ℕ) → Option (List ℕ)

-- the lines that are read from a source, where they are told; generated ones aren't read
abbrev pub read_from : Names → Source → Option (List ℕ)
read_from named FromInput = named None
read_from named (FromFile name) = named (Some name)
read_from named (Generated nodes) = None

-- the lines from a source, where they are told
abbrev pub told_from : Names → Source → Option (List ℕ)
told_from named FromInput = named None
told_from named (FromFile name) = named (Some name)
told_from named (Generated nodes) = Some (generated_input nodes)

-- how many nodes are generated
abbrev pub nodes_from : Source → Option ℕ
nodes_from FromInput = None
nodes_from (FromFile name) = None
nodes_from (Generated nodes) = Some nodes

-- the lines that are read for words, where these are taken and the lines are told
abbrev pub read_input : Names → Option Invocation → Option (List ℕ)
read_input named call = option_and_then (λ asked. read_from named asked.source) call

-- the lines that words ask for, read or generated, where the words are taken and the lines are told
abbrev pub told_input : Names → Option Invocation → Option (List ℕ)
told_input named call = option_and_then (λ asked. told_from named asked.source) call

-- how many nodes words have generated
abbrev pub nodes_asked : Option Invocation → Option ℕ
nodes_asked call = option_and_then (λ asked. nodes_from asked.source) call

-- ---- the end of a run

-- the run comes to its end, and out took what it prints
pub record Finishes (kind : InputKind) (old new : Option (List ℕ)) (input : List ℕ) : Type 0
  where
    pub halt : (run_of kind input).halt ≡ None
    pub printed : Appends old new (run_of kind input).text

-- the most bytes that are read past the one at which a run halts
abbrev pub most_read_past : ℕ
most_read_past = 4095

-- the run halts there, out took what it prints, and what was read ends near the byte there
pub record HaltsNear (kind : InputKind) (old new left : Option (List ℕ)) (input : List ℕ)
    (halt : Halt) : Type 0 where
  pub halts : (run_of kind input).halt ≡ Some halt
  pub printed : Appends old new (run_of kind input).text
  pub read : List ℕ
  pub took : Consumes (Some input) left read
  pub near : length read ≤ halting_byte kind input halt + most_read_past

-- the run is refused at a line
pub record IsRefused (kind : InputKind) (old new left : Option (List ℕ)) (input : List ℕ)
    : Type 0 where
  pub line : ℕ
  pub refusal : Refusal
  pub halted : HaltsNear kind old new left input (record { line = line; stop = Refused refusal })

-- the run reaches a limit at a line
pub record IsLimited (kind : InputKind) (old new left : Option (List ℕ)) (input : List ℕ)
    : Type 0 where
  pub line : ℕ
  pub name : LimitName
  pub halted : HaltsNear kind old new left input (record { line = line; stop = Limit name })

-- ---- faults

-- the opening failed: what was left to read stays, and nothing was printed
pub record IsUnopened (old new first left : Option (List ℕ)) : Type 0 where
  pub unread : Keeps first left
  pub unprinted : Keeps old new

-- what was read of these bytes goes on, and out took what its complete lines print
pub record PrintsRead (kind : InputKind) (old new first left : Option (List ℕ)) : Type 0 where
  pub read : List ℕ
  pub took : Consumes first left read
  pub goes_on : GoesOn kind read
  pub printed : Appends old new (lines_run kind (complete_lines read)).text

-- the opening failed, or a read of the input did
abbrev pub PrintsTaken : InputKind → (old new first left : Option (List ℕ)) → List ℕ → Type 0
PrintsTaken kind old new first left input =
    IsUnopened old new first left ⊎ PrintsRead kind old new (Some input) left

-- known bytes grow by a front of bs that isn't all of it
abbrev pub AppendsLess : (old new : Option (List ℕ)) → List ℕ → Type 0
AppendsLess old new bs = (n : ℕ) × (n < length bs) × Appends old new (take n bs)

-- less than the whole output was written
abbrev pub PrintsLessOf : InputKind → (old new : Option (List ℕ)) → List ℕ → Type 0
PrintsLessOf kind old new input = AppendsLess old new (run_of kind input).text

-- a front of the whole output was written
abbrev pub PrintsFrontOf : InputKind → (old new : Option (List ℕ)) → List ℕ → Type 0
PrintsFrontOf kind old new input = AppendsFront old new (run_of kind input).text

-- ---- generated lines

-- what out took of the run of generated lines, by the status: all of its summary at the end, less
-- than all of it where a write failed, and else nothing
pub record PrintsSummary (status : ℕ) (old new : Option (List ℕ)) (nodes : ℕ) : Type 0 where
  pub finished : status ≡ finished_status → Appends old new (generated_text nodes)
  pub less : status ≡ write_fault_status → AppendsLess old new (generated_text nodes)
  pub nothing : (status ≢ finished_status) × (status ≢ write_fault_status) → Keeps old new

-- ---- the status

-- a status is this one, or one of a fault of reading or of writing, or of want of memory
abbrev pub IsStatusOr : ℕ → ℕ → Type 0
IsStatusOr status wanted = (status ≡ wanted) ⊎ (status ≡ read_fault_status)
    ⊎ (status ≡ write_fault_status) ⊎ (status ≡ memory_status)

-- the error output gained the text of a halt of this status: where the input is told, the one at
-- which its run halts
pub record TellsHalt (kind : InputKind) (status : ℕ) (named old new : Option (List ℕ)) : Type 0
  where
    pub halt : Halt
    pub status_is : stop_status halt.stop ≡ status
    pub text : Appends old new (halt_text halt)
    pub plain : IfSome named (λ input. (run_of kind input).halt ≡ Some halt)

-- the error output gained the text of a status
pub record TellsStatus (kind : InputKind) (status : ℕ) (named old new : Option (List ℕ))
    : Type 0 where
  pub refused : status ≡ refused_status → TellsHalt kind status named old new
  pub usage : status ≡ usage_status → Appends old new usage_text
  pub read_fault : status ≡ read_fault_status → Appends old new read_fault_text
  pub write_fault : status ≡ write_fault_status → Appends old new write_fault_text
  pub memory : status ≡ memory_status → Appends old new memory_text
  pub limited : status ≡ limited_status → TellsHalt kind status named old new

-- ---- tables, frames and aliases

-- whatever the status: what out took since the call is what the first lines of the input print, or
-- a front of that; each whole line in it of an originator in agreement, of a link frame that was
-- sent by table, and of an alias is right; each commit that has an alias has its line; each packet
-- that a node put together, as these lines were carried out, is one that the originator of its
-- fragments cut under their number; and each picture that a node has at one of these lines is that
-- of its source at one of its rounds before
pub record PrintsScenarioRightly (choice : FrameChoice) (old new : Option (List ℕ)) (input : List ℕ)
    : Type 0 where
  pub lines : List (List ℕ)
  pub first : AreFirst input lines
  pub text : List ℕ
  pub took : Appends old new text
  pub front : IsFrontOf (after_lines (start choice) lines) text
  pub tables : OkLinesAreCommitted choice lines text
  pub frames : TableFramesAreRight choice lines text
  pub aliases : AliasLinesAreRight choice lines text
  pub packets : RunPacketsWereCut choice lines
  pub pictures : RunShowsPictures choice lines

-- whatever the status: what the first lines of a scenario print is right; of lines of routes nothing
-- more is said than what is printed
abbrev pub PrintsRightly : InputKind → (old new : Option (List ℕ)) → List ℕ → Type 0
PrintsRightly (Scenario choice) old new input = PrintsScenarioRightly choice old new input
PrintsRightly Routes old new input = Unit {0}
