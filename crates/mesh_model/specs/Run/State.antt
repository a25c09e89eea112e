-- The state of a scenario's run: the mesh, the clock, the routing algorithm of its nodes, which
-- link frames are printed, and what is printed so far. The algorithm is IV until a line chooses
-- another. The routes are watched where the choice of frames is `route`. An event is kept with the
-- names that nodes and LANs have when it comes. The main words are `State` and `text_of`.
use Rattle.std.specs.Prelude.{ℕ, Bool, List, [], flat_map, map, bytes_eq, position, slice_get, Option, Some, None, option_and_then}
use Rattle.mesh_base.specs.declared.event.Event.{Event}
use Rattle.mesh_base.specs.Names.{NamesGiven}
use Rattle.mesh_base.specs.declared.names.NodeName.{NodeName}
use Rattle.mesh_model.specs.declared.frame_choice.FrameChoice.{FrameChoice}
use Rattle.mesh_model.specs.declared.frame_choice.FrameChoice.TheVariants.{Hidden, All, Client, Ogm, Route}
use Rattle.mesh_model.specs.declared.line_form.Algorithm.{Algorithm}
use Rattle.mesh_model.specs.declared.line_form.Algorithm.TheVariants.{Iv}
use Rattle.mesh_model.specs.declared.route_line.RouteLine.{RouteLine}
use Rattle.mesh_model.specs.Net.Mesh.{NodeLog, NetLan, Mesh, begun_mesh}
use Rattle.mesh_model.specs.Text.Claims.{ClaimTable, claim_table_text}
use Rattle.mesh_model.specs.Text.Decode.{decode_text}
use Rattle.mesh_model.specs.Text.Events.{event_text}
use Rattle.mesh_model.specs.Text.GlobalTables.{GlobalTable, global_table_text}
use Rattle.mesh_model.specs.Text.Services.{ServiceTable, service_table_text}
use Rattle.mesh_model.specs.Text.Tables.{LinkTable, LocalTable, OrigTable, link_table_text, orig_table_text, table_text}

-- what a run prints: a table that is shown, the packets in bytes that are decoded, or an event, by
-- names
pub data Printed : Type 0 where
  LocalsShown : LocalTable → Printed
  OriginatorsShown : OrigTable → Printed
  NeighborsShown : LinkTable → Printed
  GlobalsShown : GlobalTable → Printed
  ClaimsShown : ClaimTable → Printed
  ServiceShown : ServiceTable → Printed
  Decoded : List ℕ → Printed
  Happened : NamesGiven → Event → Printed

-- the mesh, the clock in milliseconds, the algorithm of the nodes, the choice of frames, and what
-- was printed so far
pub record State : Type 0 where
  pub mesh : Mesh
  pub clock : ℕ
  pub algorithm : Algorithm
  pub choice : FrameChoice
  pub printed : List Printed

-- what is watched at the begin: nothing was told yet of routes, where the choice is of them
abbrev pub first_watch : FrameChoice → Option (List RouteLine)
first_watch Hidden = None
first_watch All = None
first_watch Client = None
first_watch Ogm = None
first_watch Route = Some []

-- before the first line
abbrev pub first_state : FrameChoice → State
first_state choice = record {
  mesh = begun_mesh (first_watch choice);
  clock = 0;
  algorithm = Iv;
  choice = choice;
  printed = [];
}

-- whether a node has this name
abbrev pub is_named : List ℕ → NodeLog → Bool
is_named name node = bytes_eq node.name name

-- the place of the node of this name
abbrev pub place_of : State → List ℕ → Option ℕ
place_of state name = position (is_named name) state.mesh.nodes

-- whether a LAN has this name
abbrev pub is_lan_named : List ℕ → NetLan → Bool
is_lan_named name lan = bytes_eq lan.name name

-- the place of the LAN of this name
abbrev pub lan_place_of : State → List ℕ → Option ℕ
lan_place_of state name = position (is_lan_named name) state.mesh.lans

-- the node of this name
abbrev pub node_named : State → List ℕ → Option NodeLog
node_named state name = option_and_then (slice_get state.mesh.nodes) (place_of state name)

-- the names of nodes
abbrev pub node_names : List NodeLog → List NodeName
node_names nodes = map (λ (node : NodeLog). record { mac = node.mac; name = node.name }) nodes

-- the names of the nodes and the LANs of a mesh
abbrev pub names_of : Mesh → NamesGiven
names_of mesh = record {
  nodes = node_names mesh.nodes;
  lans = map (λ (lan : NetLan). lan.name) mesh.lans;
}

-- the text of what is printed at once
abbrev pub printed_text : FrameChoice → Printed → List ℕ
printed_text choice (LocalsShown table) = table_text table
printed_text choice (OriginatorsShown table) = orig_table_text table
printed_text choice (NeighborsShown table) = link_table_text table
printed_text choice (GlobalsShown table) = global_table_text table
printed_text choice (ClaimsShown table) = claim_table_text table
printed_text choice (ServiceShown table) = service_table_text table
printed_text choice (Decoded bytes) = decode_text bytes
printed_text choice (Happened names event) = event_text choice names event

-- the text of all that was printed
abbrev pub text_of : State → List ℕ
text_of state = flat_map (printed_text state.choice) state.printed
