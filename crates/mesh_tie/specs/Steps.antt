-- The steps of a mesh: a node, a link or a LAN joins, a node is given what a line gives, a node
-- ticks, a frame that was sent comes to a node; a client puts a frame on a LAN, a frame that was put
-- reaches the clients of a LAN, or comes to a node; lines of routes are told, and what is watched of
-- them is another. A frame may come to any node, at any later
-- moment, over and over or never, so whatever a network loses, repeats, holds or delivers late is a
-- list of these steps. The main words are `Steps` and `IsReachable`.
use Rattle.std.specs.Prelude.{◌≡◌, ◌≤◌, ◌<◌, ◌^◌, ℕ, suc, List, [], ◌∷◌, ◌++◌, map, slice_get, Option, Some, None, Ok, ⊤}
use Rattle.std.specs.List.{AllByRecursion}
use Rattle.mesh_base.specs.declared.address.Mac.{Mac}
use Rattle.mesh_base.specs.declared.client.Key.{Key}
use Rattle.mesh_base.specs.declared.event.Event.{Event}
use Rattle.mesh_base.specs.declared.event.Event.TheVariants.{Bridged}
use Rattle.mesh_model.specs.declared.happening.Happening.{Happening}
use Rattle.mesh_model.specs.declared.route_line.RouteLine.{RouteLine}
use Rattle.mesh_model.specs.Clients.Log.{Tick, LinkFrame, LanFrame, Line, LineGiven, Attach, Frame, Gone, Join, Leave, Arp, Dhcp, Sets, Put, Get, Ping, Trace, Reboot, Log}
use Rattle.mesh_model.specs.Clients.Mentions.{key_of}
use Rattle.mesh_model.specs.Net.Due.{ticks_in}
use Rattle.mesh_model.specs.Net.Inputs.{given_to}
use Rattle.mesh_model.specs.Net.Lans.{with_events, with_lan}
use Rattle.mesh_model.specs.Net.Limits.{scenario_setup}
use Rattle.mesh_model.specs.Net.Mesh.{NodeLog, NetLan, NetLink, LanPut, SentFrame, Mesh, begun_mesh}
use Rattle.mesh_model.specs.Net.Sending.{put_event}
use Rattle.mesh_model.specs.Net.Watching.{route_event}
use Rattle.mesh_model.specs.Packets.LanFrames.{client_frame_in, lan_message_of}
use Rattle.mesh_model.specs.Packets.Payload.{ClientFrame, payload_spelling}
use Rattle.mesh_model.specs.Routes.Queries.{Queries}
use Rattle.mesh_model.specs.Scenario.AlfredForms.{least_fact_type}
use Rattle.mesh_tvlv.specs.Laws.{FitsKey}
use Rattle.mesh_tie.specs.Sources.{IsWhole}

-- a client whose address is of six bytes, and whose VLAN's wire number fits two
pub record IsClient (key : Key) : Type 0 where
  pub fits : FitsKey key
  pub bytes : AllByRecursion (λ byte. byte < 2 ^ 8) key.mac.0

-- the client that a line names, where it names one, is such as records can tell; and its client
-- frame, where it has one, goes to an address of six bytes; the type of a fact that it puts or
-- asks for is one that lines may name
abbrev pub TellsClient : LineGiven → Type 0
TellsClient (Attach lan gateways) = ⊤
TellsClient (Frame src dst vid text) = IsClient (key_of src vid) × IsWhole dst
TellsClient (Gone key) = IsClient key
TellsClient (Join key) = IsClient key
TellsClient (Leave key) = IsClient key
TellsClient (Arp mac own_ip asked_ip vid) = IsClient (key_of mac vid)
TellsClient (Dhcp key text) = IsClient key
TellsClient (Sets setting) = ⊤
TellsClient (Put type_no version text) = least_fact_type ≤ type_no
TellsClient (Get type_no) = least_fact_type ≤ type_no
TellsClient (Ping target) = ⊤
TellsClient (Trace target) = ⊤
TellsClient Reboot = ⊤

-- the moment of the newest entry of a log, 0 where there is none
abbrev pub newest_moment : Log → ℕ
newest_moment [] = 0
newest_moment (entry ∷ older) = entry.moment

-- a node may be given something at a moment: none of what it had was later
abbrev pub MayBeGiven : NodeLog → ℕ → Type 0
MayBeGiven node now = newest_moment node.log ≤ now

-- no node has an address
abbrev pub IsNew : Mac → List NodeLog → Type 0
IsNew mac nodes = (place : ℕ) (other : NodeLog) →
    slice_get nodes place ≡ Some other → other.mac ≡ mac → ⊥

-- the mesh with one more frame on a LAN, and its event
abbrev pub with_lan_frame : LanPut → Mesh → Mesh
with_lan_frame put mesh = record mesh {
  puts = mesh.puts ++ put ∷ [];
  events = mesh.events ++ put_event mesh put ∷ [];
}

-- the event of a client frame that reaches the clients of a LAN
abbrev pub bridged_event : ℕ → LanPut → ClientFrame → Event
bridged_event now put frame =
    Bridged now (suc put.lan) frame.vid frame.src frame.dst frame.text

-- the mesh with the events of these lines of routes, and what is watched then
abbrev pub with_told : List RouteLine → Option (List RouteLine) → Mesh → Mesh
with_told lines watch mesh =
    record mesh { events = mesh.events ++ map route_event lines; watch = watch }

-- one step of a mesh whose nodes have these algorithms
pub data Steps (queries : Mac → Queries) : Mesh → Mesh → Type 0 where
  node_joins : (mesh : Mesh) (node : NodeLog) →
      node.log ≡ [] → IsWhole node.mac → IsNew node.mac mesh.nodes →
      Steps queries mesh (record mesh { nodes = mesh.nodes ++ node ∷ [] })
  link_joins : (mesh : Mesh) (link : NetLink) →
      Steps queries mesh (record mesh { links = mesh.links ++ link ∷ [] })
  line_gives : (mesh after : Mesh) (place now : ℕ) (node : NodeLog) (line : LineGiven) →
      slice_get mesh.nodes place ≡ Some node → MayBeGiven node now → TellsClient line →
      given_to (scenario_setup queries) place now 0 (Line line) mesh ≡ Ok after →
      Steps queries mesh after
  node_ticks : (mesh after : Mesh) (place now : ℕ) (node : NodeLog) →
      slice_get mesh.nodes place ≡ Some node → MayBeGiven node now →
      given_to (scenario_setup queries) place now (suc (ticks_in node.log))
      (Tick (suc (ticks_in node.log))) mesh ≡ Ok after →
      Steps queries mesh after
  frame_comes : (mesh after : Mesh) (place now number throughput : ℕ) (from : Mac)
      (node : NodeLog) (frame : SentFrame) →
      slice_get mesh.nodes place ≡ Some node → MayBeGiven node now →
      slice_get mesh.frames number ≡ Some frame → IsWhole from →
      given_to (scenario_setup queries) place now frame.root
      (LinkFrame (suc number) from throughput frame.bytes) mesh ≡ Ok after →
      Steps queries mesh after
  lan_joins : (mesh : Mesh) (lan : NetLan) → Steps queries mesh (with_lan lan mesh)
  put_comes : (mesh : Mesh) (put : LanPut) (frame : ClientFrame) → put.by ≡ None →
      put.bytes ≡ payload_spelling frame →
      TellsClient (Frame frame.src frame.dst frame.vid frame.text) →
      Steps queries mesh (with_lan_frame put mesh)
  put_reaches : (mesh : Mesh) (number now : ℕ) (put : LanPut) (frame : ClientFrame) →
      slice_get mesh.puts number ≡ Some put →
      client_frame_in (lan_message_of put.bytes) ≡ Some frame →
      Steps queries mesh (with_events (bridged_event now put frame ∷ []) mesh)
  lan_comes : (mesh after : Mesh) (place now number : ℕ) (node : NodeLog) (put : LanPut) →
      slice_get mesh.nodes place ≡ Some node → MayBeGiven node now →
      slice_get mesh.puts number ≡ Some put →
      given_to (scenario_setup queries) place now 0 (LanFrame put.bytes) mesh ≡ Ok after →
      Steps queries mesh after
  time_passes : (mesh : Mesh) (h : Happening) → Steps queries mesh (record mesh { last = h })
  routes_told : (mesh : Mesh) (lines : List RouteLine) (watch : Option (List RouteLine)) →
      Steps queries mesh (with_told lines watch mesh)

-- a mesh to which any number of steps lead
pub data IsReachable (queries : Mac → Queries) : Mesh → Type 0 where
  begins : (watch : Option (List RouteLine)) → IsReachable queries (begun_mesh watch)
  goes_on : (mesh after : Mesh) → IsReachable queries mesh → Steps queries mesh after →
      IsReachable queries after
