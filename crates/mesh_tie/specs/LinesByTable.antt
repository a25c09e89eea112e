-- What a run of any lines prints of frames that are sent by table: each goes to a node whose table,
-- as committed for the message that the sender had accepted last when it sent the frame, names its
-- client, unless an event that was printed before told of an alias of that node. The main word is
-- `PrintsRightFrames`.
use Rattle.std.specs.Prelude.{◌≡◌, ◌++◌, ◌∷◌, ℕ, List, slice_get, Option, Some}
use Rattle.mesh_base.specs.declared.address.Mac.{Mac}
use Rattle.mesh_base.specs.declared.event.Event.{Event}
use Rattle.mesh_base.specs.declared.event.Event.TheVariants.{Alias, FrameSent}
use Rattle.mesh_base.specs.declared.event.Reason.TheVariants.{Table}
use Rattle.mesh_base.specs.Names.{NamesGiven}
use Rattle.mesh_model.specs.declared.act.Act.TheVariants.{Link}
use Rattle.mesh_model.specs.declared.frame_choice.FrameChoice.{FrameChoice}
use Rattle.mesh_model.specs.Clients.Log.{Log, LogEntry}
use Rattle.mesh_model.specs.Net.Mesh.{NodeLog, Mesh}
use Rattle.mesh_model.specs.Net.Next.{Has}
use Rattle.mesh_model.specs.Routes.Algorithms.{queries_of}
use Rattle.mesh_model.specs.Routes.Queries.{Queries}
use Rattle.mesh_model.specs.Run.PlainRun.{Run, after_lines, start}
use Rattle.mesh_model.specs.Run.State.{Printed, Happened}
use Rattle.mesh_tie.specs.ByTable.{IsSentInStep}
use Rattle.mesh_tie.specs.ShownTables.{PrintedNone}
use Rattle.mesh_tie.specs.Steps.{IsReachable}
use Rattle.mesh_tie.specs.TieLaws.{AllKeep}

-- the node of an address sent bytes by table at a moment: where they go to an originator, its
-- commit, as the node was told last then, names the client
pub record SentRightly (queries : Mac → Queries) (orig : Mac) (mesh : Mesh) (moment : ℕ) (me : Mac)
    (bytes : List ℕ) : Type 0 where
  pub place : ℕ
  pub node : NodeLog
  pub found : slice_get mesh.nodes place ≡ Some node
  pub mac_is : node.mac ≡ me
  pub newer : Log
  pub older : Log
  pub entry : LogEntry
  pub log_is : node.log ≡ newer ++ entry ∷ older
  pub moment_is : entry.moment ≡ moment
  pub to : Option Mac
  pub sent : Has entry.acts (Link to (Some Table) bytes)
  pub by_table : IsSentInStep queries orig mesh me entry older to bytes

-- no event before told of an alias of an originator
abbrev pub ToldNoneOf : Mac → List Event → Type 0
ToldNoneOf orig events = (number earlier : ℕ) → Has events (Alias orig number earlier) → ⊥

-- the events of frames that were sent by table
abbrev pub EventsByTableAreRight : Type 0
EventsByTableAreRight = (queries : Mac → Queries) → AllKeep queries → (mesh : Mesh) →
    IsReachable queries mesh → (orig : Mac) (before after : List Event) (number moment : ℕ)
    (me next : Mac) (bytes : List ℕ) →
    mesh.events ≡ before ++ FrameSent number moment me next (Some Table) bytes ∷ after →
    ToldNoneOf orig before → SentRightly queries orig mesh moment me bytes

-- the node of an address sent bytes by table at a moment of a run, rightly
abbrev pub SentRightlyIn : Run → Mac → ℕ → Mac → List ℕ → Type 0
SentRightlyIn run orig moment me bytes =
    SentRightly (queries_of run.state.algorithm) orig run.state.mesh moment me bytes

-- and so what the run of some lines prints of them
abbrev pub PrintsRightFrames : FrameChoice → List (List ℕ) → Type 0
PrintsRightFrames choice lines = (orig : Mac) (before after : List Printed)
    (names : NamesGiven) (number moment : ℕ) (me next : Mac) (bytes : List ℕ) →
    (after_lines (start choice) lines).state.printed
    ≡ before ++ Happened names (FrameSent number moment me next (Some Table) bytes) ∷ after →
    PrintedNone orig before →
    SentRightlyIn (after_lines (start choice) lines) orig moment me bytes

abbrev pub LinesByTableAreRight : Type 0
LinesByTableAreRight = (choice : FrameChoice) (lines : List (List ℕ)) →
    PrintsRightFrames choice lines
