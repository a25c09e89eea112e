-- Where an alias stands among the events: in the step that made its commit. Of a tick it stands
-- behind the frames of the ELP of this tick, where the algorithm sends one, and before those of the
-- originator message, which announces the commit; of a line that reboots the node it is the only
-- event. No event before it tells of an alias of the same commit. Events are printed in their
-- order, each once. The main words are `AliasesStandInSteps` and `EventsArePrinted`.
use Rattle.std.specs.Prelude.{◌≡◌, ℕ, suc, nat_lt, Bool, true, false, List, [], ◌∷◌, ◌++◌, length, slice_get, Some, Ok, if◌then◌else◌}
use Rattle.mesh_base.specs.declared.address.Mac.{Mac}
use Rattle.mesh_base.specs.declared.event.Event.{Event}
use Rattle.mesh_base.specs.declared.event.Event.TheVariants.{Alias}
use Rattle.mesh_model.specs.declared.act.Act.{Act}
use Rattle.mesh_model.specs.declared.frame_choice.FrameChoice.{FrameChoice}
use Rattle.mesh_model.specs.Acts.OwnContainers.{own_containers}
use Rattle.mesh_model.specs.Acts.Rows.{elp_acts, message_acts}
use Rattle.mesh_model.specs.Clients.Log.{Line, Log, Reboot, is_reboot}
use Rattle.mesh_model.specs.Clients.Mentions.{mentions}
use Rattle.mesh_model.specs.Commits.Aliases.{alias_before}
use Rattle.mesh_model.specs.Commits.Announcements.{announcement}
use Rattle.mesh_model.specs.Commits.History.{History, commits, committed, history, present_table, restarted}
use Rattle.mesh_model.specs.Commits.Versions.{first_commit}
use Rattle.mesh_model.specs.Knowledge.Steps.{knowledge}
use Rattle.mesh_model.specs.Net.Due.{ticks_in}
use Rattle.mesh_model.specs.Net.Inputs.{given_to}
use Rattle.mesh_model.specs.Net.Lans.{with_events}
use Rattle.mesh_model.specs.Net.Limits.{scenario_setup}
use Rattle.mesh_model.specs.Net.Mesh.{NodeLog, Mesh, Setup}
use Rattle.mesh_model.specs.Net.Next.{Has}
use Rattle.mesh_model.specs.Net.Sending.{Actor, after_acts}
use Rattle.mesh_model.specs.Packets.Containers.{containers_spelling}
use Rattle.mesh_model.specs.Routes.Queries.{Queries}
use Rattle.mesh_model.specs.Run.PlainRun.{after_lines, start}
use Rattle.mesh_model.specs.Run.State.{Printed, ClaimsShown, Decoded, GlobalsShown, Happened, LocalsShown, NeighborsShown, OriginatorsShown, ServiceShown}
use Rattle.mesh_model.specs.Tables.Versions.{Version}
use Rattle.mesh_tie.specs.Originators.{log_of}
use Rattle.mesh_tie.specs.Steps.{IsReachable}
use Rattle.mesh_tie.specs.TieLaws.{AllKeep}

-- ---- the acts of a tick

-- the index of a node's next tick
abbrev pub next_tick : NodeLog → ℕ
next_tick node = suc (ticks_in node.log)

-- the history of a node behind the commit of its next tick, at a moment
abbrev pub history_in_tick : NodeLog → ℕ → History
history_in_tick node now =
    committed (present_table (mentions node.mac node.log) now) (history node.mac node.log)

-- the ELP of a node's next tick, where its algorithm sends one
abbrev pub elp_in_tick : Queries → NodeLog → List Act
elp_in_tick q node = elp_acts q (knowledge q node.mac node.log).routes (next_tick node)

-- the originator message of a node's next tick, at a moment: it announces the last commit then
abbrev pub message_in_tick : Queries → NodeLog → ℕ → List Act
message_in_tick q node now =
    message_acts (q.beats (knowledge q node.mac node.log).routes (next_tick node)).ogm
    (containers_spelling (own_containers (knowledge q node.mac node.log).services.settings
    (announcement (history_in_tick node now))))

-- acts of a node lead from one mesh to another, and these are the events of what they do
pub record LeadsTo (setup : Setup) (actor : Actor) (acts : List Act) (mesh after : Mesh)
    (events : List Event) : Type 0 where
  pub carried : after_acts setup actor acts mesh ≡ Ok after
  pub gained : after.events ≡ mesh.events ++ events

-- a node that acts in its next tick, at a moment
abbrev pub ticking : ℕ → NodeLog → ℕ → Actor
ticking place node now =
    record { place = place; mac = node.mac; now = now; root = next_tick node }

-- ---- the events of a mesh

-- an event of an alias between others stands in the step of a tick: the tick makes the commit; the
-- events before are those of the mesh before the tick, and of the tick's ELP; those behind begin
-- with the events of its originator message
pub record StandsInTick (queries : Mac → Queries) (before : List Event) (orig : Mac)
    (number earlier : ℕ) (after : List Event) : Type 0 where
  pub mesh : Mesh
  pub reachable : IsReachable queries mesh
  pub place : ℕ
  pub node : NodeLog
  pub found : slice_get mesh.nodes place ≡ Some node
  pub mac_is : node.mac ≡ orig
  pub now : ℕ
  pub commit : Version
  pub made : (history_in_tick node now).commits ≡ commit ∷ commits node.mac node.log
  pub number_is : number ≡ length (commits node.mac node.log)
  pub alias : alias_before commit (commits node.mac node.log) ≡ Some earlier
  pub elp : List Event
  pub elp_sent : Mesh
  pub sends_elp : LeadsTo (scenario_setup queries) (ticking place node now)
      (elp_in_tick (queries node.mac) node) mesh elp_sent elp
  pub message : List Event
  pub message_sent : Mesh
  pub sends_message : LeadsTo (scenario_setup queries) (ticking place node now)
      (message_in_tick (queries node.mac) node now)
      (with_events (Alias orig number earlier ∷ []) elp_sent) message_sent message
  pub later : List Event
  pub before_is : before ≡ mesh.events ++ elp
  pub after_is : after ≡ message ++ later
  pub first : (other : ℕ) → Has before (Alias orig number other) → ⊥

-- an event of an alias stands in the step of a line that reboots its node: the reboot makes the
-- commit, which is a first one; the events before are those of the mesh before the line, and the
-- line has no other event
pub record StandsAtReboot (queries : Mac → Queries) (before : List Event) (orig : Mac)
    (number earlier : ℕ) : Type 0 where
  pub mesh : Mesh
  pub reachable : IsReachable queries mesh
  pub place : ℕ
  pub node : NodeLog
  pub found : slice_get mesh.nodes place ≡ Some node
  pub mac_is : node.mac ≡ orig
  pub now : ℕ
  pub made : (restarted (history node.mac node.log)).commits
      ≡ first_commit ∷ commits node.mac node.log
  pub number_is : number ≡ length (commits node.mac node.log)
  pub alias : alias_before first_commit (commits node.mac node.log) ≡ Some earlier
  pub rebooted : Mesh
  pub reboots : given_to (scenario_setup queries) place now 0 (Line Reboot) mesh ≡ Ok rebooted
  pub only : rebooted.events ≡ mesh.events ++ Alias orig number earlier ∷ []
  pub before_is : before ≡ mesh.events
  pub first : (other : ℕ) → Has before (Alias orig number other) → ⊥

-- whether a reboot made the commit of a number that is in the log of the node of an address: the
-- newest entry made it unless it was there before
abbrev pub is_of_reboot : Mac → ℕ → Log → Bool
is_of_reboot me number [] = false
is_of_reboot me number (entry ∷ older) = if nat_lt number (length (commits me older))
    then is_of_reboot me number older else is_reboot entry.given

-- an event of an alias between others stands in the step that made its commit, by the log of its
-- originator: in that of a tick, unless a reboot made it
pub record StandsInStep (queries : Mac → Queries) (log : Log) (before : List Event) (orig : Mac)
    (number earlier : ℕ) (after : List Event) : Type 0 where
  pub in_tick : is_of_reboot orig number log ≡ false →
      StandsInTick queries before orig number earlier after
  pub at_reboot : is_of_reboot orig number log ≡ true →
      StandsAtReboot queries before orig number earlier

-- so does each in each mesh that is reached, whose originator messages stay their originators'
abbrev pub AliasesStandInSteps : Type 0
AliasesStandInSteps = (queries : Mac → Queries) → AllKeep queries → (mesh : Mesh) →
    IsReachable queries mesh → (before after : List Event) (orig : Mac) (number earlier : ℕ) →
    mesh.events ≡ before ++ Alias orig number earlier ∷ after →
    StandsInStep queries (log_of orig mesh.nodes) before orig number earlier after

-- ---- what is printed

-- the events among what is printed
unfoldable pub events_in : List Printed → List Event
events_in [] = []
events_in (LocalsShown table ∷ rest) = events_in rest
events_in (OriginatorsShown table ∷ rest) = events_in rest
events_in (NeighborsShown table ∷ rest) = events_in rest
events_in (GlobalsShown table ∷ rest) = events_in rest
events_in (ClaimsShown table ∷ rest) = events_in rest
events_in (ServiceShown table ∷ rest) = events_in rest
events_in (Decoded bytes ∷ rest) = events_in rest
events_in (Happened names event ∷ rest) = event ∷ events_in rest

-- those of a run are the events of its mesh
abbrev pub EventsArePrinted : Type 0
EventsArePrinted = (choice : FrameChoice) (lines : List (List ℕ)) →
    events_in (after_lines (start choice) lines).state.printed
    ≡ (after_lines (start choice) lines).state.mesh.events
