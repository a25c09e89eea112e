-- What a run of any lines shows of the clients of others: a part that is printed `ok` has the
-- entries that the originator committed for the message that the shown node accepted last, unless
-- an event that was printed before told of an alias of it. The main word is `PrintsCommits`.
use Rattle.std.specs.Prelude.{◌≡◌, ◌-◌, ◌++◌, ◌∷◌, ℕ, true, List, slice_get, Some}
use Rattle.mesh_base.specs.declared.address.Mac.{Mac}
use Rattle.mesh_base.specs.declared.event.Event.TheVariants.{Alias}
use Rattle.mesh_base.specs.Names.{NamesGiven}
use Rattle.mesh_model.specs.declared.frame_choice.FrameChoice.{FrameChoice}
use Rattle.mesh_model.specs.Commits.Announcements.{commit_at_root}
use Rattle.mesh_model.specs.Net.Mesh.{NodeLog, SentFrame}
use Rattle.mesh_model.specs.Net.Next.{Has}
use Rattle.mesh_model.specs.Routes.Algorithms.{queries_of}
use Rattle.mesh_model.specs.Run.PlainRun.{Run, after_lines, start}
use Rattle.mesh_model.specs.Run.Shown.{global_table}
use Rattle.mesh_model.specs.Run.State.{Printed, GlobalsShown, Happened, State}
use Rattle.mesh_model.specs.Tables.Known.{LastTold, known_by}
use Rattle.mesh_model.specs.Tables.Versions.{Version}
use Rattle.mesh_model.specs.Text.GlobalTables.{GlobalPart, GlobalTable}
use Rattle.mesh_laws.specs.Machine.World.{IsCommit}
use Rattle.mesh_tie.specs.Originators.{commits_of, log_of}
use Rattle.mesh_tie.specs.Tie.{known_at_node}

-- no event that was printed told of an alias of an originator
abbrev pub PrintedNone : Mac → List Printed → Type 0
PrintedNone orig printed = (names : NamesGiven) (number earlier : ℕ) →
    Has printed (Happened names (Alias orig number earlier)) → ⊥

-- a part that a node of a state shows is of a commit: its byte and its entries are those of the
-- commit, and it is that of the root of the frame that brought the message which the node accepted
-- last
pub record IsOfCommit (state : State) (node : NodeLog) (part : GlobalPart) : Type 0 where
  pub commit : Version
  pub is_commit : IsCommit (commits_of part.row.orig state.mesh) commit
  pub held : part.row.held ≡ Some commit.byte
  pub told : part.row.told ≡ commit.byte
  pub entries : part.entries ≡ commit.table
  pub last : LastTold
  pub accepted : (known_by (known_at_node (queries_of state.algorithm) node).tables
      part.row.orig).told ≡ Some last
  pub frame : SentFrame
  pub sent : slice_get state.mesh.frames (last.frame - 1) ≡ Some frame
  pub at_root : commit.table
      ≡ (commit_at_root part.row.orig (log_of part.row.orig state.mesh.nodes) frame.root).table

-- whatever a run would show, behind so many of its lines, of a node
abbrev pub ShowsCommits : Run → Type 0
ShowsCommits run = (place : ℕ) (node : NodeLog) (part : GlobalPart) →
    slice_get run.state.mesh.nodes place ≡ Some node →
    Has (global_table run.state.algorithm run.state.clock node).parts part →
    part.row.ok ≡ true → PrintedNone part.row.orig run.state.printed →
    IsOfCommit run.state node part

-- each table that a run shows is shown behind some of its lines
abbrev pub ShownTablesAreCommitted : Type 0
ShownTablesAreCommitted = (choice : FrameChoice) (lines : List (List ℕ)) →
    ShowsCommits (after_lines (start choice) lines)

-- a table is that of a node, by a run's state
pub record IsTableOf (run : Run) (node : NodeLog) (table : GlobalTable) : Type 0 where
  pub place : ℕ
  pub found : slice_get run.state.mesh.nodes place ≡ Some node
  pub table_is : table ≡ global_table run.state.algorithm run.state.clock node

-- a table was printed right behind some of these lines, as that of a node, and a part of it is of
-- the commit that the node was told last
pub record WasCommitted (choice : FrameChoice) (lines : List (List ℕ)) (before : List Printed)
    (table : GlobalTable) (part : GlobalPart) : Type 0 where
  pub done : List (List ℕ)
  pub rest : List (List ℕ)
  pub lines_are : lines ≡ done ++ rest
  pub printed_before : before ≡ (after_lines (start choice) done).state.printed
  pub node : NodeLog
  pub shown : IsTableOf (after_lines (start choice) done) node table
  pub of_commit : IsOfCommit (after_lines (start choice) done).state node part

-- each table that the run of some lines prints is so in what it prints as `ok`
abbrev pub PrintsCommits : FrameChoice → List (List ℕ) → Type 0
PrintsCommits choice lines =
    (before after : List Printed) (table : GlobalTable) (part : GlobalPart) →
    (after_lines (start choice) lines).state.printed ≡ before ++ GlobalsShown table ∷ after →
    Has table.parts part → part.row.ok ≡ true → PrintedNone part.row.orig before →
    WasCommitted choice lines before table part

abbrev pub PrintedTablesAreCommitted : Type 0
PrintedTablesAreCommitted = (choice : FrameChoice) (lines : List (List ℕ)) →
    PrintsCommits choice lines
