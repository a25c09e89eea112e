-- What a net does with an act: on links it sends one frame after another, on a LAN it puts one. The
-- log of events gains what the choice shows. The main words are `sent_on`, `put_in` and `Logged`.
use Rattle.std.specs.Prelude.{◌≡◌, ◌↔◌, ℕ, suc, ◌+◌, ◌*◌, ◌<◌, ◌≤◌, ◌⊎◌, nat_eq, nat_lt, bytes_eq, Bool, true, false, List, [], ◌∷◌, ◌++◌, filter, length, map, slice_get, slice_index_or, slice_set, Option, Some, None, Ok, option_and_then, if◌then◌else◌}
use Rattle.std.specs.List.{list_any}
use Rattle.std.specs.Option.{option_map_or}
use Rattle.mesh_base.specs.declared.address.Mac.{Mac}
use Rattle.mesh_model.specs.declared.act.Act.{Act}
use Rattle.mesh_model.specs.declared.act.Act.TheVariants.{Link, Lan, Print}
use Rattle.mesh_model.specs.declared.ending.LimitName.{LimitName}
use Rattle.mesh_model.specs.declared.ending.LimitName.TheVariants.{Frames, FrameBytes}
use Rattle.mesh_post.specs.declared.row.Row.{Row}
use Rattle.mesh_base.specs.declared.event.Event.{Event}
use Rattle.mesh_base.specs.declared.event.Event.TheVariants.{FrameSent}
use Rattle.mesh_base.specs.declared.event.Reason.{Reason}
use Rattle.mesh_model.specs.declared.frame_choice.FrameChoice.{FrameChoice}
use Rattle.mesh_model.specs.declared.happening.Happening.{Happening}
use Rattle.mesh_model.specs.Net.Mesh.{SentFrame, LanPut, Mesh, address_at}
use Rattle.mesh_model.specs.Net.Next.{Has}
use Rattle.mesh_model.specs.Routes.Queries.{Queries}
use Rattle.mesh_post.specs.declared.port.NetPort.{NetPort}
use Rattle.mesh_model.specs.Net.Sending.{Actor, after_act, frames_on, end_of, put_event, with_put}
use Rattle.mesh_model.specs.Text.Events.{is_shown}
use Rattle.mesh_model.specs.Net.Limits.{frames_limit, frame_bytes_limit, clock_limit, scenario_setup}
use Rattle.mesh_post.specs.declared.post.Post.{Post}
use Rattle.mesh_model.specs.Net.Due.{arrivals_by, delivery_at, fate_of_mark, lan_delivery_at}
use Rattle.mesh_post.specs.declared.row.Lane.{Lane}
use Rattle.mesh_post.specs.declared.row.Sender.{Sender}
use Rattle.mesh_post.specs.declared.row.Sending.{Sending}
use Rattle.mesh_post.specs.Kept.{PostStands, bytes_in, frames_in}
use Rattle.mesh_post.specs.Waiting.{Awaits}

-- the frame of some bytes that goes on a link next
abbrev pub next_frame : Actor → List ℕ → ℕ → Mesh → SentFrame
next_frame actor bytes way mesh = record {
  link = way;
  turn = frames_on way mesh.frames;
  moment = actor.now;
  bytes = bytes;
  root = actor.root;
}

-- its event
abbrev pub next_event : Actor → Option Reason → List ℕ → ℕ → Mesh → Event
next_event actor reason bytes way mesh =
    FrameSent (suc (length mesh.frames)) actor.now actor.mac
    (address_at (end_of way mesh.links) mesh.nodes) reason bytes

-- the mesh after it
abbrev pub sent_on : Actor → Option Reason → List ℕ → ℕ → Mesh → Mesh
sent_on actor reason bytes way mesh = record mesh {
  frames = mesh.frames ++ next_frame actor bytes way mesh ∷ [];
  events = mesh.events ++ next_event actor reason bytes way mesh ∷ [];
}

-- the mesh after such frames on some links, one after another
abbrev pub sent_on_all : Actor → Option Reason → List ℕ → List ℕ → Mesh → Mesh
sent_on_all actor reason bytes [] mesh = mesh
sent_on_all actor reason bytes (way ∷ rest) mesh =
    sent_on_all actor reason bytes rest (sent_on actor reason bytes way mesh)

-- a sending at a place has these bytes and this root
pub record IsSending (sendings : List Sending) (place : ℕ) (bytes : List ℕ) (root : ℕ)
    : Type 0 where
  pub sending : Sending
  pub found : slice_get sendings place ≡ Some sending
  pub bytes_are : sending.bytes ≡ bytes
  pub root_is : sending.root ≡ root

-- what waits gained these
abbrev pub Gained : List Happening → List Happening → List Happening → Type 0
Gained old new more = (x : Happening) → Has new x ↔ Has more x ⊎ Has old x

-- a log gained the events by which one mesh has more than another, as far as the choice shows them
pub record Logged (choice : FrameChoice) (before after : Mesh) (old new : List Event) : Type 0 where
  pub more : List Event
  pub came : after.events ≡ before.events ++ more
  pub told : new ≡ old ++ filter (is_shown choice) more

-- a log only grew
pub record Grew (old new : List Event) : Type 0 where
  pub more : List Event
  pub is : new ≡ old ++ more

-- the actor that a sender is
abbrev pub actor_of : Sender → Actor
actor_of sender = record {
  place = sender.place;
  mac = sender.mac;
  now = sender.now;
  root = sender.root;
}

-- what is kept amid a step, when a happening is the last: these frames' deliveries and these ticks
-- wait
pub record Amid (post : Post) (sendings : List Sending) (last : Happening) (ticks : List Happening)
    (mesh : Mesh) : Type 0 where
  pub stands : PostStands post sendings mesh
  pub waits : Awaits post.queue last ticks mesh.links mesh.frames mesh.puts

-- amid a step, a mesh follows another, and the log gained its events
pub record Sends (choice : FrameChoice) (post : Post) (sendings : List Sending) (last : Happening)
    (ticks : List Happening) (before after : Mesh) (old new : List Event) : Type 0 where
  pub amid : Amid post sendings last ticks after
  pub logged : Logged choice before after old new

-- what a call on what is kept leaves as it is
pub record KeepsAll (old new : Post) : Type 0 where
  pub alloc : new.alloc ≡ old.alloc
  pub rows : new.rows ≡ old.rows
  pub ways : new.ways ≡ old.ways
  pub lans : new.lans ≡ old.lans
  pub puts : new.puts ≡ old.puts
  pub older : new.older ≡ old.older
  pub fresh : new.fresh ≡ old.fresh
  pub choice : new.choice ≡ old.choice

-- some more bytes may be sent now
pub record HasRoom (mesh : Mesh) (now more : ℕ) : Type 0 where
  pub few : frames_in mesh < frames_limit
  pub small : bytes_in mesh + more ≤ frame_bytes_limit
  pub soon : now ≤ clock_limit

-- what is kept has one frame more, of so many bytes, on the link at a place, and its deliveries
-- wait
pub record Carries (old new : Post) (sender : Sender) (parcel size way : ℕ) (lane : Lane) : Type 0
  where
    pub rows : new.rows ≡ old.rows
    pub ways : new.ways.items ≡ old.ways.items
    pub lans : new.lans.items ≡ old.lans.items
    pub puts : new.puts.items ≡ old.puts.items
    pub turns : new.turns.items ≡ slice_set old.turns.items way (suc lane.turn)
    pub frames : new.frames ≡ old.frames ++ record { link = way; sending = parcel } ∷ []
    pub bytes : new.bytes ≡ old.bytes + size
    pub queue : Gained old.queue new.queue (map (delivery_at (length old.frames))
        (arrivals_by (fate_of_mark lane.mark) sender.now lane.delay))

-- the mesh with one more LAN frame, and its event
abbrev pub put_in : LanPut → Mesh → Mesh
put_in put mesh = record mesh {
  puts = mesh.puts ++ put ∷ [];
  events = mesh.events ++ put_event mesh put ∷ [];
}

-- what is kept has one LAN frame more, by its LAN and who put it, with its bytes as a sending, and
-- its delivery waits
pub record CarriesPut (old new : Post) (put : LanPut) : Type 0 where
  pub rows : new.rows ≡ old.rows
  pub ways : new.ways.items ≡ old.ways.items
  pub turns : new.turns.items ≡ old.turns.items
  pub lans : new.lans.items ≡ old.lans.items
  pub frames : new.frames ≡ old.frames
  pub puts : new.puts.items ≡ old.puts.items
      ++ record { lan = put.lan; sending = old.older + length old.fresh.items; by = put.by } ∷ []
  pub fresh : new.fresh.items ≡ old.fresh.items ++ record { root = 0; bytes = put.bytes } ∷ []
  pub older : new.older ≡ old.older
  pub bytes : new.bytes ≡ old.bytes + length put.bytes
  pub queue : Gained old.queue new.queue (lan_delivery_at (length old.puts.items) put ∷ [])

-- ---- an act on links
-- whether a frame goes to the node of an address: to all, or to the one of this address
abbrev pub goes_mac : Option Mac → Mac → Bool
goes_mac None end = true
goes_mac (Some mac) end = bytes_eq end.0 mac.0

-- whether a frame goes on the link of the row at a place
abbrev pub row_goes : List Row → Option Mac → ℕ → Bool
row_goes rows to way = option_map_or (λ (row : Row). goes_mac to row.end) (slice_get rows way) false

-- the places of the links on which a frame of the node at a place goes
abbrev pub chosen_ways : Post → ℕ → Option Mac → List ℕ
chosen_ways post place to =
    filter (row_goes post.rows to) (slice_index_or post.ways.items place [])

-- a way, where it passes a test
abbrev pub if_passes : (ℕ → Bool) → ℕ → Option ℕ
if_passes test way = if test way then Some way else None

-- the place of the link at a place among those that leave a node, where a frame goes on it
abbrev pub chosen_at : Post → ℕ → ℕ → Option Mac → Option ℕ
chosen_at post node i to = option_and_then (if_passes (row_goes post.rows to))
    (slice_get (slice_index_or post.ways.items node []) i)

-- the limit that so many more frames of so many bytes would pass
abbrev pub passed_room : ℕ → ℕ → ℕ → ℕ → Option LimitName
passed_room frames bytes count size =
    if nat_lt frames_limit (frames + count) then Some Frames
    else if nat_lt frame_bytes_limit (bytes + count * size) then Some FrameBytes
    else None

-- the limit that so many more frames of so many bytes would pass, behind those that are kept
abbrev pub passed_more : Post → ℕ → ℕ → Option LimitName
passed_more post count size =
    passed_room (length post.frames + length post.puts.items) post.bytes count size

-- the place of the LAN that has the node at a place among its gateways, by the gateways of LANs of
-- which the first stands at a place
abbrev pub lan_among : ℕ → ℕ → List (List ℕ) → Option ℕ
lan_among node place [] = None
lan_among node place (gateways ∷ rest) = if list_any (nat_eq node) gateways then Some place
    else lan_among node (suc place) rest

-- the limit that one more frame of so many bytes would pass on a LAN, where there is one
abbrev pub passed_on : Post → Option ℕ → ℕ → Option LimitName
passed_on post None size = None
passed_on post (Some lan) size = passed_more post 1 size

-- the limit that an act of the node at a place would pass
abbrev pub passed_by : Post → ℕ → Act → Option LimitName
passed_by post place (Link to reason bytes) =
    passed_more post (length (chosen_ways post place to)) (length bytes)
passed_by post place (Lan bytes) =
    passed_on post (lan_among place 0 post.lans.items) (length bytes)
passed_by post place (Print event) = None

-- so many frames of so many bytes may be sent now
pub record HasRoomFor (mesh : Mesh) (now count size : ℕ) : Type 0 where
  pub few : frames_in mesh + count ≤ frames_limit
  pub small : bytes_in mesh + count * size ≤ frame_bytes_limit
  pub soon : now ≤ clock_limit

-- these are places of links
abbrev pub AreLow : List ℕ → Mesh → Type 0
AreLow ws mesh = (way : ℕ) → Has ws way → way < length mesh.links

-- ---- steps
-- amid a step that began with these sendings
pub record InStep (post : Post) (older : List Sending) (last : Happening) (ticks : List Happening)
    (mesh : Mesh) : Type 0 where
  pub amid : Amid post (older ++ post.fresh.items) last ticks mesh
  pub older_is : post.older ≡ length older

-- amid such a step, a mesh follows another, and the log gained its events
pub record SentAll (choice : FrameChoice) (post : Post) (older : List Sending) (last : Happening)
    (ticks : List Happening) (before after : Mesh) (old new : List Event) : Type 0 where
  pub step : InStep post older last ticks after
  pub logged : Logged choice before after old new

-- amid a step, a LAN frame came
pub record HasCome (queries : Mac → Queries) (choice : FrameChoice) (put : LanPut) (post : Post)
    (older : List Sending) (last : Happening) (ticks : List Happening) (before : Mesh)
    (old new : List Event) : Type 0 where
  pub is : with_put (scenario_setup queries) put before ≡ Ok (put_in put before)
  pub step : InStep post older last ticks (put_in put before)
  pub logged : Logged choice before (put_in put before) old new

-- the mesh has the node that sends, now
pub record MaySend (sender : Sender) (last : Happening) (mesh : Mesh) : Type 0 where
  pub place : sender.place < length mesh.nodes
  pub late : last.moment ≤ sender.now
  pub soon : sender.now ≤ clock_limit

-- an act was carried out
pub record HasActed (queries : Mac → Queries) (choice : FrameChoice) (sender : Sender) (act : Act)
    (post : Post) (older : List Sending) (last : Happening) (ticks : List Happening)
    (before : Mesh) (old new : List Event) : Type 0 where
  pub after : Mesh
  pub is : after_act (scenario_setup queries) (actor_of sender) act before ≡ Ok after
  pub step : InStep post older last ticks after
  pub logged : Logged choice before after old new
  pub nodes : after.nodes ≡ before.nodes

-- what is kept took an act: it is carried out in each mesh that it may have been
abbrev pub Took : Sender → Act → Post → Post → List Event → List Event → Type 0
Took sender act old new old_log new_log =
    (queries : Mac → Queries) (older : List Sending) (last : Happening) (ticks : List Happening)
    (mesh : Mesh) → InStep old older last ticks mesh → MaySend sender last mesh →
    HasActed queries old.choice sender act new older last ticks mesh old_log new_log

-- a port took an act
pub record PortTook (old : NetPort) (act : Act) (new : NetPort) : Type 0 where
  pub post : new.post.ghost_name ≡ old.post.ghost_name
  pub log : new.log.ghost_name ≡ old.log.ghost_name
  pub sender : new.sender ≡ old.sender
  pub choice : new.post.now.choice ≡ old.post.now.choice
  pub grew : Grew old.log.now new.log.now
  pub took : Took old.sender act old.post.now new.post.now old.log.now new.log.now
