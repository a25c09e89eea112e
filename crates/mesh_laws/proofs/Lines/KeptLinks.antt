-- What happens leaves the links as they are.
use Rattle.std.proofs.Common.{◌≡◌, ℕ, zero, suc, List, [], ◌∷◌, filter, slice_get, Option, Some, None, Ok, refl, sym, ◌∙◌, subst}
use Rattle.std.specs.Fn.{iterate}
use Rattle.mesh_model.specs.declared.happening.Class.{Class}
use Rattle.mesh_model.specs.declared.happening.Class.TheVariants.{LinkDelivery, LanDelivery, NodeTick}
use Rattle.mesh_model.specs.declared.happening.Happening.{Happening}
use Rattle.mesh_model.specs.Clients.Log.{Given, LogEntry, Tick, LinkFrame, LanFrame}
use Rattle.mesh_model.specs.Net.Due.{ticks_in}
use Rattle.mesh_model.specs.Net.Inputs.{noted_at, noted, after_entry, entry_of, given_node, given_to, all_given}
use Rattle.mesh_model.specs.Net.Lans.{gets, reach_events, with_events, put_over, put_given}
use Rattle.mesh_model.specs.Packets.LanFrames.{client_frame_in, lan_message_of}
use Rattle.mesh_model.specs.Packets.Payload.{ClientFrame}
use Rattle.mesh_model.specs.Net.Mesh.{NodeLog, NetLan, NetLink, SentFrame, LanPut, Mesh, Setup, address_at}
use Rattle.mesh_model.specs.Net.Runs.{Course, effect, after_happening, delivered, frame_given, frame_over, tick_given, throughput_between, turn, with_last}
use Rattle.mesh_model.specs.Net.Watching.{lines_told, with_lines}
use Rattle.mesh_model.specs.Net.Sending.{Actor, after_acts}
use Rattle.mesh_laws.proofs.Schedule.Runs.{Turned, rests, goes, stops, turned}
use Rattle.mesh_laws.proofs.Schedule.Sends.{acts_send, as_ok, ok_one, on_ok_ok}
use Rattle.mesh_laws.proofs.Schedule.Steps.{not_passed}

-- the links are the same after
abbrev pub KeepsLinks : Mesh → Mesh → Type 0
KeepsLinks mesh after = after.links ≡ mesh.links

keeps_itself : (mesh : Mesh) → KeepsLinks mesh mesh
keeps_itself mesh = refl

keeps_both : (a b c : Mesh) → KeepsLinks a b → KeepsLinks b c → KeepsLinks a c
keeps_both a b c p q = q ∙ p

entry_keeps : (setup : Setup) (mesh : Mesh) (actor : Actor) (entry : LogEntry) (after : Mesh) → after_entry setup actor entry mesh ≡ Ok after → KeepsLinks mesh after
entry_keeps setup mesh actor entry after e =
    let p = on_ok_ok (noted actor.place entry) (after_acts setup actor entry.acts mesh) after e in
    let sends = acts_send setup actor entry.acts mesh p.0 p.1 in
    subst (KeepsLinks mesh) (ok_one (record p.0 { nodes = noted_at actor.place entry p.0.nodes }) after p.2) sends.adds.links

same_mesh : (mesh after : Mesh) → as_ok mesh ≡ as_ok after → KeepsLinks mesh after
same_mesh mesh after e = subst (KeepsLinks mesh) (ok_one mesh after e) (keeps_itself mesh)

node_keeps : (setup : Setup) (mesh : Mesh) (place now root : ℕ) (given : Given) (o : Option NodeLog) (after : Mesh) → given_node setup place now root given o mesh ≡ Ok after
    → KeepsLinks mesh after
node_keeps setup mesh place now root given None after e = same_mesh mesh after e
node_keeps setup mesh place now root given (Some n) after e =
    let actor : Actor = record { place = place; mac = n.mac; now = now; root = root } in
    let entry : LogEntry = entry_of setup n now given in
    entry_keeps setup mesh actor entry after (not_passed setup actor mesh (setup.node_limit n.mac n.log now given) (after_entry setup actor entry mesh) after e)

pub given_keeps : (setup : Setup) (mesh : Mesh) (place now root : ℕ) (given : Given) (after : Mesh) → given_to setup place now root given mesh ≡ Ok after
    → KeepsLinks mesh after
given_keeps setup mesh place now root given after e = node_keeps setup mesh place now root given (slice_get mesh.nodes place) after e

-- ---- happenings

over_keeps : (setup : Setup) (mesh : Mesh) (place now : ℕ) (frame : SentFrame) (o : Option NetLink) (after : Mesh) → frame_over setup place now frame o mesh ≡ Ok after → KeepsLinks mesh after
over_keeps setup mesh place now frame None after e = same_mesh mesh after e
over_keeps setup mesh place now frame (Some link) after e =
    given_keeps setup mesh link.to now frame.root (LinkFrame (suc place) (address_at link.from mesh.nodes) (throughput_between link.to link.from mesh.links) frame.bytes) after e

frame_keeps : (setup : Setup) (mesh : Mesh) (place now : ℕ) (o : Option SentFrame) (after : Mesh) → frame_given setup place now o mesh ≡ Ok after → KeepsLinks mesh after
frame_keeps setup mesh place now None after e = same_mesh mesh after e
frame_keeps setup mesh place now (Some frame) after e = over_keeps setup mesh place now frame (slice_get mesh.links frame.link) after e

pub delivered_keeps : (setup : Setup) (mesh : Mesh) (place now : ℕ) (after : Mesh) → delivered setup place now mesh ≡ Ok after → KeepsLinks mesh after
delivered_keeps setup mesh place now after e = frame_keeps setup mesh place now (slice_get mesh.frames place) after e

all_keep : (setup : Setup) (places : List ℕ) (now : ℕ) (given : Given) (mesh after : Mesh) → all_given setup places now given mesh ≡ Ok after → KeepsLinks mesh after
all_keep setup [] now given mesh after e = same_mesh mesh after e
all_keep setup (place ∷ rest) now given mesh after e =
    let p = on_ok_ok (all_given setup rest now given) (given_to setup place now 0 given mesh) after e in
    keeps_both mesh p.0 after (given_keeps setup mesh place now 0 given p.0 p.1) (all_keep setup rest now given p.0 after p.2)

lan_keeps : (setup : Setup) (mesh : Mesh) (now : ℕ) (put : LanPut) (frame : Option ClientFrame) (o : Option NetLan) (after : Mesh) → put_over setup now put frame o mesh ≡ Ok after
    → KeepsLinks mesh after
lan_keeps setup mesh now put frame None after e = same_mesh mesh after e
lan_keeps setup mesh now put frame (Some lan) after e =
    all_keep setup (filter (gets frame put.by) lan.gateways) now (LanFrame put.bytes) (with_events (reach_events now put.lan put.by frame) mesh) after e

put_keeps : (setup : Setup) (mesh : Mesh) (now : ℕ) (o : Option LanPut) (after : Mesh) → put_given setup now o mesh ≡ Ok after → KeepsLinks mesh after
put_keeps setup mesh now None after e = same_mesh mesh after e
put_keeps setup mesh now (Some put) after e = lan_keeps setup mesh now put (client_frame_in (lan_message_of put.bytes)) (slice_get mesh.lans put.lan) after e

tick_keeps : (setup : Setup) (mesh : Mesh) (place now : ℕ) (o : Option NodeLog) (after : Mesh) → tick_given setup place now o mesh ≡ Ok after → KeepsLinks mesh after
tick_keeps setup mesh place now None after e = same_mesh mesh after e
tick_keeps setup mesh place now (Some node) after e = given_keeps setup mesh place now (suc (ticks_in node.log)) (Tick (suc (ticks_in node.log))) after e

effect_keeps : (setup : Setup) (mesh : Mesh) (class : Class) (place now : ℕ) (after : Mesh) → effect setup class place now mesh ≡ Ok after → KeepsLinks mesh after
effect_keeps setup mesh LinkDelivery place now after e = delivered_keeps setup mesh place now after e
effect_keeps setup mesh LanDelivery place now after e = put_keeps setup mesh now (slice_get mesh.puts place) after e
effect_keeps setup mesh NodeTick place now after e = tick_keeps setup mesh place now (slice_get mesh.nodes place) after e

happening_keeps : (setup : Setup) (mesh : Mesh) (h : Happening) (after : Mesh) → after_happening setup h mesh ≡ Ok after → KeepsLinks mesh after
happening_keeps setup mesh h after e =
    let p = on_ok_ok (with_last setup h) (effect setup h.class h.place h.moment mesh) after e in
    let x = effect_keeps setup mesh h.class h.place h.moment p.0 p.1 in
    subst (KeepsLinks mesh) (ok_one (record (with_lines (lines_told setup h p.0) p.0) { last = h }) after p.2) x

turn_keeps : (setup : Setup) (t : ℕ) (o after : Course) → Turned setup t o after → KeepsLinks o.mesh after.mesh
turn_keeps setup t o after (rests d e) = subst (λ (x : Course). KeepsLinks o.mesh x.mesh) (sym e) (keeps_itself o.mesh)
turn_keeps setup t o after (goes h mesh s n c e) = subst (λ (x : Course). KeepsLinks o.mesh x.mesh) (sym e) (happening_keeps setup o.mesh h mesh c)
turn_keeps setup t o after (stops h limit s n c e) = subst (λ (x : Course). KeepsLinks o.mesh x.mesh) (sym e) (keeps_itself o.mesh)

pub turns_keep_links : (setup : Setup) (t count : ℕ) (o : Course) → KeepsLinks o.mesh (iterate (turn setup t) count o).mesh
turns_keep_links setup t zero o = keeps_itself o.mesh
turns_keep_links setup t (suc count) o =
    keeps_both o.mesh (turn setup t o).mesh (iterate (turn setup t) count (turn setup t o)).mesh (turn_keeps setup t o (turn setup t o) (turned setup t o))
    (turns_keep_links setup t count (turn setup t o))
