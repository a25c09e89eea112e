-- In a mesh that is reached, no node was given anything after the clock.
use Rattle.std.proofs.Common.{◌≡◌, ℕ, zero, suc, ◌≤◌, List, [], ◌∷◌, ◌++◌, filter, slice_get, Option, Some, None, Ok, sym, subst, arith}
use Rattle.mesh_model.specs.declared.happening.Class.{Class}
use Rattle.mesh_model.specs.declared.happening.Class.TheVariants.{LinkDelivery, LanDelivery, NodeTick}
use Rattle.mesh_model.specs.declared.happening.Happening.{Happening}
use Rattle.mesh_model.specs.Clients.Log.{Given, LogEntry, Tick, LinkFrame, LanFrame, Line}
use Rattle.mesh_model.specs.Net.Due.{ticks_in}
use Rattle.mesh_model.specs.Net.Inputs.{all_given, noted_at, noted, after_entry, entry_of, given_node, given_to}
use Rattle.mesh_model.specs.Net.Lans.{attachment, gets, put_given, put_over, reach_events, with_events, with_lan}
use Rattle.mesh_model.specs.Net.Mesh.{NodeLog, NetLan, NetLink, LanPut, SentFrame, Mesh, Setup, address_at}
use Rattle.mesh_model.specs.Net.Runs.{effect, after_happening, delivered, frame_given, frame_over, tick_given, throughput_between, with_last}
use Rattle.mesh_model.specs.Net.Watching.{lines_told, with_lines}
use Rattle.mesh_model.specs.Net.Sending.{Actor, after_acts}
use Rattle.mesh_model.specs.Packets.LanFrames.{client_frame_in, lan_message_of}
use Rattle.mesh_model.specs.Packets.Payload.{ClientFrame}
use Rattle.mesh_model.specs.Run.Steps.{new_node}
use Rattle.node_ground.specs.OwnStands.{newest_moment}
use Rattle.mesh_laws.proofs.Schedule.Sends.{acts_send, as_ok, ok_one, on_ok_ok, sends_put}
use Rattle.mesh_laws.proofs.Schedule.Steps.{not_passed}
use Rattle.mesh_net.specs.Reached.{IsReached, begins, joins, links, lan_joins, lan_comes, all_are_given, is_given, is_delivered, happens, passes}
use Rattle.mesh_net.specs.Steps.{ArePast}

-- what happens at a moment keeps that
abbrev KeepsPast : ℕ → Mesh → Mesh → Type 0
KeepsPast now mesh after = ArePast now mesh.nodes → ArePast now after.nodes

pub past_later : (now later : ℕ) (nodes : List NodeLog) → now ≤ later → ArePast now nodes → ArePast later nodes
past_later now later [] on past = tt
past_later now later (node ∷ nodes) on past = let first = past.0 in (omega (arith, first, on), past_later now later nodes on past.1)

past_more : (now : ℕ) (nodes : List NodeLog) (node : NodeLog) → newest_moment node.log ≤ now → ArePast now nodes → ArePast now (nodes ++ node ∷ [])
past_more now [] node is past = (is, tt)
past_more now (first ∷ nodes) node is past = (past.0, past_more now nodes node is past.1)

pub past_at : (now place : ℕ) (nodes : List NodeLog) (node : NodeLog) → ArePast now nodes → slice_get nodes place ≡ Some node → newest_moment node.log ≤ now
past_at now place [] node past found = cc
past_at now zero (first ∷ nodes) node past found = subst (λ (n : NodeLog). newest_moment n.log ≤ now) (one found) past.0
  where
    one : Some first ≡ Some node → first ≡ node
    one e = cc
past_at now (suc place) (first ∷ nodes) node past found = past_at now place nodes node past.1 found

noted_past : (now place : ℕ) (entry : LogEntry) (nodes : List NodeLog) → entry.moment ≤ now → ArePast now nodes → ArePast now (noted_at place entry nodes)
noted_past now place entry [] is past = tt
noted_past now zero entry (node ∷ nodes) is past = (is, past.1)
noted_past now (suc place) entry (node ∷ nodes) is past = (past.0, noted_past now place entry nodes is past.1)

same_mesh : (now : ℕ) (mesh after : Mesh) → as_ok mesh ≡ as_ok after → KeepsPast now mesh after
same_mesh now mesh after e = subst (KeepsPast now mesh) (ok_one mesh after e) (λ past. past)

entry_keeps : (setup : Setup) (now : ℕ) (mesh : Mesh) (actor : Actor) (entry : LogEntry) (after : Mesh) → entry.moment ≤ now → after_entry setup actor entry mesh ≡ Ok after → KeepsPast now mesh after
entry_keeps setup now mesh actor entry after is e =
    let p = on_ok_ok (noted actor.place entry) (after_acts setup actor entry.acts mesh) after e in
    let sends = acts_send setup actor entry.acts mesh p.0 p.1 in
    subst (KeepsPast now mesh) (ok_one (record p.0 { nodes = noted_at actor.place entry p.0.nodes }) after p.2)
    (λ past. noted_past now actor.place entry p.0.nodes is (subst (ArePast now) (sym sends.nodes) past))

node_keeps : (setup : Setup) (mesh : Mesh) (place now root : ℕ) (given : Given) (o : Option NodeLog) (after : Mesh) → given_node setup place now root given o mesh ≡ Ok after → KeepsPast now mesh after
node_keeps setup mesh place now root given None after e = same_mesh now mesh after e
node_keeps setup mesh place now root given (Some n) after e =
    let actor : Actor = record { place = place; mac = n.mac; now = now; root = root } in
    let entry : LogEntry = entry_of setup n now given in
    entry_keeps setup now mesh actor entry after (omega arith) (not_passed setup actor mesh (setup.node_limit n.mac n.log now given) (after_entry setup actor entry mesh) after e)

pub given_keeps : (setup : Setup) (mesh : Mesh) (place now root : ℕ) (given : Given) (after : Mesh) → given_to setup place now root given mesh ≡ Ok after → KeepsPast now mesh after
given_keeps setup mesh place now root given after e = node_keeps setup mesh place now root given (slice_get mesh.nodes place) after e

pub all_keep : (setup : Setup) (places : List ℕ) (now : ℕ) (given : Given) (mesh after : Mesh) → all_given setup places now given mesh ≡ Ok after → KeepsPast now mesh after
all_keep setup [] now given mesh after e = same_mesh now mesh after e
all_keep setup (place ∷ rest) now given mesh after e =
    let p = on_ok_ok (all_given setup rest now given) (given_to setup place now 0 given mesh) after e in
    λ past. all_keep setup rest now given p.0 after p.2 (given_keeps setup mesh place now 0 given p.0 p.1 past)

put_keeps : (setup : Setup) (mesh : Mesh) (now : ℕ) (put : LanPut) (frame : Option ClientFrame) (o : Option NetLan) (after : Mesh) → put_over setup now put frame o mesh ≡ Ok after → KeepsPast now mesh after
put_keeps setup mesh now put frame None after e = same_mesh now mesh after e
put_keeps setup mesh now put frame (Some lan) after e = all_keep setup (filter (gets frame put.by) lan.gateways) now (LanFrame put.bytes) (with_events (reach_events now put.lan put.by frame) mesh) after e

lan_keeps : (setup : Setup) (mesh : Mesh) (now : ℕ) (o : Option LanPut) (after : Mesh) → put_given setup now o mesh ≡ Ok after → KeepsPast now mesh after
lan_keeps setup mesh now None after e = same_mesh now mesh after e
lan_keeps setup mesh now (Some put) after e = put_keeps setup mesh now put (client_frame_in (lan_message_of put.bytes)) (slice_get mesh.lans put.lan) after e

over_keeps : (setup : Setup) (mesh : Mesh) (place now : ℕ) (frame : SentFrame) (o : Option NetLink) (after : Mesh) → frame_over setup place now frame o mesh ≡ Ok after → KeepsPast now mesh after
over_keeps setup mesh place now frame None after e = same_mesh now mesh after e
over_keeps setup mesh place now frame (Some link) after e =
    given_keeps setup mesh link.to now frame.root (LinkFrame (suc place) (address_at link.from mesh.nodes) (throughput_between link.to link.from mesh.links) frame.bytes) after e

frame_keeps : (setup : Setup) (mesh : Mesh) (place now : ℕ) (o : Option SentFrame) (after : Mesh) → frame_given setup place now o mesh ≡ Ok after → KeepsPast now mesh after
frame_keeps setup mesh place now None after e = same_mesh now mesh after e
frame_keeps setup mesh place now (Some frame) after e = over_keeps setup mesh place now frame (slice_get mesh.links frame.link) after e

delivered_keeps : (setup : Setup) (mesh : Mesh) (place now : ℕ) (after : Mesh) → delivered setup place now mesh ≡ Ok after → KeepsPast now mesh after
delivered_keeps setup mesh place now after e = frame_keeps setup mesh place now (slice_get mesh.frames place) after e

tick_keeps : (setup : Setup) (mesh : Mesh) (place now : ℕ) (o : Option NodeLog) (after : Mesh) → tick_given setup place now o mesh ≡ Ok after → KeepsPast now mesh after
tick_keeps setup mesh place now None after e = same_mesh now mesh after e
tick_keeps setup mesh place now (Some node) after e = given_keeps setup mesh place now (suc (ticks_in node.log)) (Tick (suc (ticks_in node.log))) after e

effect_keeps : (setup : Setup) (mesh : Mesh) (class : Class) (place now : ℕ) (after : Mesh) → effect setup class place now mesh ≡ Ok after → KeepsPast now mesh after
effect_keeps setup mesh LinkDelivery place now after e = delivered_keeps setup mesh place now after e
effect_keeps setup mesh LanDelivery place now after e = lan_keeps setup mesh now (slice_get mesh.puts place) after e
effect_keeps setup mesh NodeTick place now after e = tick_keeps setup mesh place now (slice_get mesh.nodes place) after e

happening_keeps : (setup : Setup) (mesh : Mesh) (h : Happening) (after : Mesh) → after_happening setup h mesh ≡ Ok after → KeepsPast h.moment mesh after
happening_keeps setup mesh h after e =
    let p = on_ok_ok (with_last setup h) (effect setup h.class h.place h.moment mesh) after e in
    subst (KeepsPast h.moment mesh) (ok_one (record (with_lines (lines_told setup h p.0) p.0) { last = h }) after p.2) (effect_keeps setup mesh h.class h.place h.moment p.0 p.1)

pub are_past : (setup : Setup) (clock : ℕ) (mesh : Mesh) → IsReached setup clock mesh → ArePast clock mesh.nodes
are_past setup _ _ (begins watched) = tt
are_past setup _ _ (joins clock mesh name mac way few) = past_more clock mesh.nodes (new_node name mac clock) (omega arith) (are_past setup clock mesh way)
are_past setup _ _ (links clock mesh link way few new) = are_past setup clock mesh way
are_past setup _ _ (lan_joins clock mesh after name gateways way few new e) = all_keep setup gateways clock (attachment mesh gateways) (with_lan (record { name = name; gateways = gateways }) mesh) after e (are_past setup clock mesh way)
are_past setup _ _ (lan_comes clock mesh after put way by now low e) = subst (ArePast clock) (sym (sends_put setup put mesh after low e).nodes) (are_past setup clock mesh way)
are_past setup _ _ (all_are_given clock mesh after places line way leaves e) = all_keep setup places clock (Line line) mesh after e (are_past setup clock mesh way)
are_past setup _ _ (is_given clock mesh after place given way line e) = given_keeps setup mesh place clock 0 given after e (are_past setup clock mesh way)
are_past setup _ _ (is_delivered clock mesh after place way e) = delivered_keeps setup mesh place clock after e (are_past setup clock mesh way)
are_past setup _ _ (happens clock mesh after h way next later within e) =
    happening_keeps setup mesh h after e (past_later clock h.moment mesh.nodes later (are_past setup clock mesh way))
are_past setup _ _ (passes clock later mesh way on within quiet) = past_later clock later mesh.nodes on (are_past setup clock mesh way)

-- the newest input of a node isn't after the clock
pub is_past : (setup : Setup) (clock : ℕ) (mesh : Mesh) (place : ℕ) (node : NodeLog) → IsReached setup clock mesh → slice_get mesh.nodes place ≡ Some node → newest_moment node.log ≤ clock
is_past setup clock mesh place node way found = past_at clock place mesh.nodes node (are_past setup clock mesh way) found
