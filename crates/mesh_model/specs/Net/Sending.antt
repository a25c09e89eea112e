-- What the acts of a node do. A frame on all links is one frame on each link that leaves the node,
-- in the order of the links; a frame to a neighbour goes on the link to it. Each frame is an event.
-- An act that would make too many frames, or too many bytes of them, passes `frames` or, looked at
-- behind it, `frame-bytes`; frames on links and on LANs are counted together. What a gateway puts
-- goes on its LAN; a node that is no gateway has none. The main word is `after_acts`.
use Rattle.std.specs.Prelude.{ℕ, suc, ◌+◌, ◌&&◌, nat_lt, nat_eq, bytes_eq, Bool, true, List, [], ◌∷◌, ◌++◌, length, slice_get, Option, Some, None, Result, Ok, Err, if◌then◌else◌}
use Rattle.std.specs.List.{list_any}
use Rattle.std.specs.Option.{option_map_or}
use Rattle.mesh_base.specs.declared.address.Mac.{Mac}
use Rattle.mesh_base.specs.declared.event.Event.{Event}
use Rattle.mesh_base.specs.declared.event.Event.TheVariants.{FrameSent, LanSent}
use Rattle.mesh_base.specs.declared.event.Reason.{Reason}
use Rattle.mesh_model.specs.declared.act.Act.{Act}
use Rattle.mesh_model.specs.declared.act.Act.TheVariants.{Link, Lan, Print}
use Rattle.mesh_model.specs.declared.ending.LimitName.{LimitName}
use Rattle.mesh_model.specs.declared.ending.LimitName.TheVariants.{Frames, FrameBytes}
use Rattle.mesh_model.specs.Net.Mesh.{NodeLog, NetLan, NetLink, SentFrame, LanPut, Mesh, Setup, address_at}

-- what a step leads to: the mesh after it, or the limit that it would pass
abbrev pub Attempt : Type 0
Attempt = Result Mesh LimitName

-- what follows a step that passed no limit
abbrev pub on_ok : (Mesh → Attempt) → Attempt → Attempt
on_ok next (Ok mesh) = next mesh
on_ok next (Err limit) = Err limit

-- how many of these frames the link at a place carried
abbrev pub frames_on : ℕ → List SentFrame → ℕ
frames_on place [] = 0
frames_on place (frame ∷ rest) =
    (if nat_eq frame.link place then 1 else 0) + frames_on place rest

-- how many bytes these frames have
abbrev pub total_bytes : List SentFrame → ℕ
total_bytes [] = 0
total_bytes (frame ∷ rest) = length frame.bytes + total_bytes rest

-- how many bytes these LAN frames have
abbrev pub put_bytes : List LanPut → ℕ
put_bytes [] = 0
put_bytes (put ∷ rest) = length put.bytes + put_bytes rest

-- whether a frame goes to the node at a place: to all, or to the one of this address
abbrev pub goes_to : Option Mac → List NodeLog → ℕ → Bool
goes_to None nodes place = true
goes_to (Some mac) nodes place = bytes_eq (address_at place nodes).0 mac.0

-- the places of the links on which a frame of the node at a place goes, of links of which the first
-- stands at a place
abbrev pub ways : List NodeLog → ℕ → Option Mac → ℕ → List NetLink → List ℕ
ways nodes sender to place [] = []
ways nodes sender to place (link ∷ rest) =
    (if nat_eq link.from sender && goes_to to nodes link.to then place ∷ [] else [])
    ++ ways nodes sender to (suc place) rest

-- one frame on each of these links, after frames that were sent before
abbrev pub frames_over : List ℕ → List SentFrame → ℕ → ℕ → List ℕ → List SentFrame
frames_over [] before now root bytes = []
frames_over (link ∷ links) before now root bytes = record {
  link = link;
  turn = frames_on link before;
  moment = now;
  bytes = bytes;
  root = root;
} ∷ frames_over links before now root bytes

-- the place of the node at a link's end
abbrev pub end_of : ℕ → List NetLink → ℕ
end_of place links = option_map_or (λ (link : NetLink). link.to) (slice_get links place) 0

-- the events of frames that a node sent, of which the first stands at a place
abbrev pub sent_events : Mac → Option Reason → Mesh → ℕ → List SentFrame → List Event
sent_events me reason mesh place [] = []
sent_events me reason mesh place (frame ∷ rest) =
    FrameSent (suc place) frame.moment me (address_at (end_of frame.link mesh.links) mesh.nodes)
    reason frame.bytes
    ∷ sent_events me reason mesh (suc place) rest

-- the mesh with these frames of a node
abbrev pub with_frames : Setup → Mac → Option Reason → List SentFrame → Mesh → Attempt
with_frames setup me reason new mesh =
    if nat_lt setup.frames_limit (length (mesh.frames ++ new) + length mesh.puts) then Err Frames
    else if nat_lt setup.bytes_limit (total_bytes (mesh.frames ++ new) + put_bytes mesh.puts)
    then Err FrameBytes
    else Ok (record mesh {
      frames = mesh.frames ++ new;
      events = mesh.events ++ sent_events me reason mesh (length mesh.frames) new;
    })

-- who acts: the place and the address of a node; at which moment; and the root that it hands on
pub record Actor : Type 0 where
  pub place : ℕ
  pub mac : Mac
  pub now : ℕ
  pub root : ℕ

-- the frames of an act on links
abbrev pub frames_of : Actor → Option Mac → List ℕ → Mesh → List SentFrame
frames_of actor to bytes mesh =
    frames_over (ways mesh.nodes actor.place to 0 mesh.links) mesh.frames actor.now actor.root bytes

-- ---- LANs

-- the place of the LAN of the gateway at a place, of LANs of which the first stands at a place
abbrev pub lan_from : ℕ → ℕ → List NetLan → Option ℕ
lan_from gateway place [] = None
lan_from gateway place (lan ∷ rest) = if list_any (nat_eq gateway) lan.gateways then Some place
    else lan_from gateway (suc place) rest

-- the place of the LAN of the node at a place, where that is a gateway
abbrev pub lan_of : ℕ → List NetLan → Option ℕ
lan_of gateway lans = lan_from gateway 0 lans

-- the event of a LAN frame that joins a mesh
abbrev pub put_event : Mesh → LanPut → Event
put_event mesh put = LanSent (suc (length mesh.puts)) put.moment (suc put.lan) put.bytes

-- the mesh with one more LAN frame
abbrev pub with_put : Setup → LanPut → Mesh → Attempt
with_put setup put mesh =
    if nat_lt setup.frames_limit (length mesh.frames + length (mesh.puts ++ put ∷ []))
    then Err Frames
    else if nat_lt setup.bytes_limit (total_bytes mesh.frames + put_bytes (mesh.puts ++ put ∷ []))
    then Err FrameBytes
    else Ok (record mesh {
      puts = mesh.puts ++ put ∷ [];
      events = mesh.events ++ put_event mesh put ∷ [];
    })

-- the mesh after a node puts bytes on its LAN, where it has one
abbrev pub put_on : Setup → Actor → List ℕ → Option ℕ → Mesh → Attempt
put_on setup actor bytes None mesh = Ok mesh
put_on setup actor bytes (Some lan) mesh = with_put setup
    (record { lan = lan; moment = actor.now; bytes = bytes; by = Some actor.place }) mesh

-- the mesh after an act
abbrev pub after_act : Setup → Actor → Act → Mesh → Attempt
after_act setup actor (Link to reason bytes) mesh =
    with_frames setup actor.mac reason (frames_of actor to bytes mesh) mesh
after_act setup actor (Lan bytes) mesh =
    put_on setup actor bytes (lan_of actor.place mesh.lans) mesh
after_act setup actor (Print event) mesh = Ok (record mesh { events = mesh.events ++ event ∷ [] })

-- the mesh after acts, one after another
abbrev pub after_acts : Setup → Actor → List Act → Mesh → Attempt
after_acts setup actor [] mesh = Ok mesh
after_acts setup actor (act ∷ acts) mesh =
    on_ok (after_acts setup actor acts) (after_act setup actor act mesh)
