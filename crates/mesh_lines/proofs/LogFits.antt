-- What the logs of a run's nodes have, and its LANs: no entry is later than the clock may stand, and
-- the texts of lines have no newline.
use Rattle.std.proofs.Common.{◌≡◌, ◌⊎◌, ◌≤◌, ℕ, zero, suc, List, [], ◌∷◌, ◌++◌, Option, Some, None, Ok, filter, refl, sym, subst, slice_get, ◌∙◌, inl, inr, arith}
use Rattle.mesh_base.specs.declared.address.Mac.{Mac}
use Rattle.mesh_model.specs.declared.happening.Class.{Class}
use Rattle.mesh_model.specs.declared.happening.Class.TheVariants.{LinkDelivery, LanDelivery, NodeTick}
use Rattle.mesh_model.specs.declared.happening.Happening.{Happening}
use Rattle.mesh_model.specs.Clients.Log.{Given, Tick, LinkFrame, LanFrame, Line, LineGiven, Attach, Frame, Gone, Join, Leave, Arp, Dhcp, Sets, Put, Get, Ping, Trace, Reboot, Log, LogEntry}
use Rattle.mesh_model.specs.Net.Due.{ticks_in}
use Rattle.mesh_model.specs.Net.Inputs.{all_given, entry_of, given_node, given_to, noted_at}
use Rattle.mesh_model.specs.Net.Lans.{gets, put_given, put_over, reach_events, with_events}
use Rattle.mesh_model.specs.Net.Limits.{clock_limit, scenario_setup}
use Rattle.mesh_model.specs.Net.Mesh.{NodeLog, NetLan, NetLink, LanPut, SentFrame, Mesh, Setup, address_at}
use Rattle.mesh_model.specs.Net.Next.{Has}
use Rattle.mesh_model.specs.Net.Runs.{Course, begin, delivered, effect, frame_given, frame_over, going_on, after_happening, run_to, throughput_between, tick_given, turn, with_last}
use Rattle.mesh_model.specs.Net.Watching.{lines_told, with_lines}
use Rattle.mesh_model.specs.Net.Sending.{with_put}
use Rattle.mesh_model.specs.Packets.LanFrames.{client_frame_in, lan_message_of}
use Rattle.mesh_model.specs.Packets.Payload.{ClientFrame, payload_spelling}
use Rattle.mesh_model.specs.Routes.Queries.{Queries}
use Rattle.mesh_laws.specs.Cuts.{IsUnbroken}
use Rattle.mesh_laws.specs.Soundness.{FitsPlaces}
use Rattle.mesh_laws.proofs.Schedule.Due.{due_is_next}
use Rattle.mesh_laws.proofs.Schedule.Members.{get_either, get_last}
use Rattle.mesh_laws.proofs.Schedule.Runs.{Fine, Turned, fine_turn, goes, rests, stops, turned, turns_keep}
use Rattle.mesh_laws.proofs.Schedule.Sends.{as_ok, ok_one, on_ok_ok}
use Rattle.mesh_tie.specs.Sources.{IsWhole}
use Rattle.mesh_tie.proofs.GainLemmas.{put_is}
use Rattle.mesh_tie.proofs.SentLemmas.{HasGiven, given_is}
use Rattle.mesh_lines.proofs.PayloadTexts.{texts_alike}

-- ---- what fits
-- the text that a line gives has no newline
abbrev pub LinePlain : LineGiven → Type 0
LinePlain (Attach lan gateways) = Unit {0}
LinePlain (Frame src dst vid text) = IsUnbroken text
LinePlain (Gone key) = Unit {0}
LinePlain (Join key) = Unit {0}
LinePlain (Leave key) = Unit {0}
LinePlain (Arp mac own asked vid) = Unit {0}
LinePlain (Dhcp key text) = IsUnbroken text
LinePlain (Sets setting) = Unit {0}
LinePlain (Put type_no version text) = IsUnbroken text
LinePlain (Get type_no) = Unit {0}
LinePlain (Ping target) = Unit {0}
LinePlain (Trace target) = Unit {0}
LinePlain Reboot = Unit {0}

abbrev pub GivenPlain : Given → Type 0
GivenPlain (Tick index) = Unit {0}
GivenPlain (LinkFrame number from throughput bytes) = Unit {0}
GivenPlain (LanFrame bytes) = Unit {0}
GivenPlain (Line line) = LinePlain line

pub record EntryFits (entry : LogEntry) : Type 0 where
  pub low : entry.moment ≤ clock_limit
  pub plain : GivenPlain entry.given

abbrev pub LogFits : Log → Type 0
LogFits [] = Unit {0}
LogFits (entry ∷ older) = EntryFits entry × LogFits older

abbrev pub NodesFit : List NodeLog → Type 0
NodesFit [] = Unit {0}
NodesFit (node ∷ rest) = LogFits node.log × NodesFit rest

pub nodes_joined : (nodes more : List NodeLog) → NodesFit nodes → NodesFit more → NodesFit (nodes ++ more)
nodes_joined [] more p q = q
nodes_joined (node ∷ rest) more p q = (p.0, nodes_joined rest more p.1 q)

-- the text of a client frame that no gateway put on a LAN has no newline
abbrev pub PutFits : LanPut → Type 0
PutFits put = put.by ≡ None → (frame : ClientFrame) → put.bytes ≡ payload_spelling frame → IsWhole frame.dst → IsWhole frame.src → IsUnbroken frame.text

abbrev pub PutsFit : List LanPut → Type 0
PutsFit puts = (place : ℕ) (put : LanPut) → slice_get puts place ≡ Some put → PutFits put

pub record MeshFits (mesh : Mesh) : Type 0 where
  pub logs : NodesFit mesh.nodes
  pub puts : PutsFit mesh.puts

one_some : {X : Type 0} (x y : X) → Some x ≡ Some y → x ≡ y
one_some x y e = cc

node_fits : (nodes : List NodeLog) (place : ℕ) (node : NodeLog) → NodesFit nodes → slice_get nodes place ≡ Some node → LogFits node.log
node_fits [] place node fits got = cc
node_fits (first ∷ rest) zero node fits got = subst (λ (n : NodeLog). LogFits n.log) (one_some first node got) fits.0
node_fits (first ∷ rest) (suc place) node fits got = node_fits rest place node fits.1 got

entry_fits : (log : Log) (entry : LogEntry) → LogFits log → Has log entry → EntryFits entry
entry_fits [] entry fits has = absurd has
entry_fits (first ∷ older) entry fits (inl same) = subst EntryFits (sym same) fits.0
entry_fits (first ∷ older) entry fits (inr has) = entry_fits older entry fits.1 has

pub noted_fits : (nodes : List NodeLog) (place : ℕ) (node : NodeLog) (entry : LogEntry) → NodesFit nodes → slice_get nodes place ≡ Some node → Has node.log entry → EntryFits entry
noted_fits nodes place node entry fits got has = entry_fits node.log entry (node_fits nodes place node fits got) has

fit_noted : (at : ℕ) (entry : LogEntry) (nodes : List NodeLog) → EntryFits entry → NodesFit nodes → NodesFit (noted_at at entry nodes)
fit_noted at entry [] one fits = tt
fit_noted zero entry (node ∷ rest) one fits = ((one, fits.0), fits.1)
fit_noted (suc at) entry (node ∷ rest) one fits = (fits.0, fit_noted at entry rest one fits.1)

-- ---- what is given
same_fits : (mesh after : Mesh) → as_ok mesh ≡ as_ok after → MeshFits mesh → MeshFits after
same_fits mesh after e fits = subst MeshFits (ok_one mesh after e) fits

none_fits : (setup : Setup) (mesh after : Mesh) (place now root : ℕ) (given : Given) (o : Option NodeLog) → o ≡ None → given_node setup place now root given o mesh ≡ Ok after → MeshFits mesh → MeshFits after
none_fits setup mesh after place now root given None is e fits = same_fits mesh after e fits
none_fits setup mesh after place now root given (Some node) is e fits = cc

pub given_fits : (queries : Mac → Queries) (mesh after : Mesh) (place now root : ℕ) (given : Given) → now ≤ clock_limit → GivenPlain given → given_to (scenario_setup queries) place now root given mesh ≡ Ok after → MeshFits mesh → MeshFits after
given_fits queries mesh after place now root given low plain e fits = go (slice_get mesh.nodes place) refl
  where
    gateway_put : (put : LanPut) (gateway : ℕ) → put.by ≡ Some gateway → PutFits put
    gateway_put put gateway by none = cc

    go : (o : Option NodeLog) → slice_get mesh.nodes place ≡ o → MeshFits after
    go None none = none_fits (scenario_setup queries) mesh after place now root given (slice_get mesh.nodes place) none e fits
    go (Some node) found = record {
      logs = subst NodesFit (sym has.nodes) (fit_noted place (entry_of (scenario_setup queries) node now given) mesh.nodes (record { low = low; plain = plain }) fits.logs);
      puts = λ at put got. by_put at put (get_either mesh.puts has.more_puts at put (subst (λ ps. slice_get ps at ≡ Some put) has.puts got));
    }
      where
        has : HasGiven (scenario_setup queries) place now root node given mesh after
        has = given_is (scenario_setup queries) place now root node given mesh after found e

        by_put : (at : ℕ) (put : LanPut) → (slice_get mesh.puts at ≡ Some put) ⊎ Has has.more_puts put → PutFits put
        by_put at put (inl before) = fits.puts at put before
        by_put at put (inr new) = let is = has.put put new in gateway_put put is.gateway is.by_gateway

pub all_fits : (queries : Mac → Queries) (places : List ℕ) (mesh after : Mesh) (now : ℕ) (given : Given) → now ≤ clock_limit → GivenPlain given → all_given (scenario_setup queries) places now given mesh ≡ Ok after → MeshFits mesh → MeshFits after
all_fits queries [] mesh after now given low plain e fits = same_fits mesh after e fits
all_fits queries (place ∷ rest) mesh after now given low plain e fits =
    let p = on_ok_ok (all_given (scenario_setup queries) rest now given) (given_to (scenario_setup queries) place now 0 given mesh) after e in
    all_fits queries rest p.0 after now given low plain p.2 (given_fits queries mesh p.0 place now 0 given low plain p.1 fits)

over_fits : (queries : Mac → Queries) (mesh : Mesh) (place now : ℕ) (frame : SentFrame) (o : Option NetLink) (after : Mesh) → now ≤ clock_limit → frame_over (scenario_setup queries) place now frame o mesh ≡ Ok after → MeshFits mesh → MeshFits after
over_fits queries mesh place now frame None after low e fits = same_fits mesh after e fits
over_fits queries mesh place now frame (Some link) after low e fits =
    given_fits queries mesh after link.to now frame.root (LinkFrame (suc place) (address_at link.from mesh.nodes) (throughput_between link.to link.from mesh.links) frame.bytes) low tt e fits

frame_fits : (queries : Mac → Queries) (mesh : Mesh) (place now : ℕ) (o : Option SentFrame) (after : Mesh) → now ≤ clock_limit → frame_given (scenario_setup queries) place now o mesh ≡ Ok after → MeshFits mesh → MeshFits after
frame_fits queries mesh place now None after low e fits = same_fits mesh after e fits
frame_fits queries mesh place now (Some frame) after low e fits = over_fits queries mesh place now frame (slice_get mesh.links frame.link) after low e fits

pub delivered_fits : (queries : Mac → Queries) (mesh : Mesh) (place now : ℕ) (after : Mesh) → now ≤ clock_limit → delivered (scenario_setup queries) place now mesh ≡ Ok after → MeshFits mesh → MeshFits after
delivered_fits queries mesh place now after low e fits = frame_fits queries mesh place now (slice_get mesh.frames place) after low e fits

tick_fits : (queries : Mac → Queries) (mesh : Mesh) (place now : ℕ) (o : Option NodeLog) (after : Mesh) → now ≤ clock_limit → tick_given (scenario_setup queries) place now o mesh ≡ Ok after → MeshFits mesh → MeshFits after
tick_fits queries mesh place now None after low e fits = same_fits mesh after e fits
tick_fits queries mesh place now (Some node) after low e fits = given_fits queries mesh after place now (suc (ticks_in node.log)) (Tick (suc (ticks_in node.log))) low tt e fits

-- ---- LANs
-- a client's frame comes on a LAN
pub put_fits : (setup : Setup) (put : LanPut) (mesh after : Mesh) → PutFits put → with_put setup put mesh ≡ Ok after → MeshFits mesh → MeshFits after
put_fits setup put mesh after plain e fits = subst MeshFits (put_is setup put mesh after e) (record { logs = fits.logs; puts = λ at other got. go other (fits.puts at other) (get_last mesh.puts put at other got) })
  where
    go : {P : Type 0} (other : LanPut) → (P → PutFits other) → P ⊎ (other ≡ put) → PutFits other
    go other old (inl before) = old before
    go other old (inr same) = subst PutFits (sym same) plain

-- the frame of a line that has no newline
pub spelled_fits : (put : LanPut) (one : ClientFrame) → put.bytes ≡ payload_spelling one → IsWhole one.dst → IsWhole one.src → IsUnbroken one.text → PutFits put
spelled_fits put one bytes dst src plain by other is to from = subst IsUnbroken (texts_alike one other dst src to from (sym bytes ∙ is)) plain

lan_fits : (queries : Mac → Queries) (mesh : Mesh) (now : ℕ) (put : LanPut) (frame : Option ClientFrame) (o : Option NetLan) (after : Mesh) → now ≤ clock_limit → put_over (scenario_setup queries) now put frame o mesh ≡ Ok after → MeshFits mesh → MeshFits after
lan_fits queries mesh now put frame None after low e fits = same_fits mesh after e fits
lan_fits queries mesh now put frame (Some lan) after low e fits =
    all_fits queries (filter (gets frame put.by) lan.gateways) (with_events (reach_events now put.lan put.by frame) mesh) after now (LanFrame put.bytes) low tt e (record { logs = fits.logs; puts = fits.puts })

reach_fits : (queries : Mac → Queries) (mesh : Mesh) (now : ℕ) (o : Option LanPut) (after : Mesh) → now ≤ clock_limit → put_given (scenario_setup queries) now o mesh ≡ Ok after → MeshFits mesh → MeshFits after
reach_fits queries mesh now None after low e fits = same_fits mesh after e fits
reach_fits queries mesh now (Some put) after low e fits = lan_fits queries mesh now put (client_frame_in (lan_message_of put.bytes)) (slice_get mesh.lans put.lan) after low e fits

-- ---- what happens
effect_fits : (queries : Mac → Queries) (mesh : Mesh) (class : Class) (place now : ℕ) (after : Mesh) → now ≤ clock_limit → effect (scenario_setup queries) class place now mesh ≡ Ok after → MeshFits mesh → MeshFits after
effect_fits queries mesh LinkDelivery place now after low e fits = delivered_fits queries mesh place now after low e fits
effect_fits queries mesh LanDelivery place now after low e fits = reach_fits queries mesh now (slice_get mesh.puts place) after low e fits
effect_fits queries mesh NodeTick place now after low e fits = tick_fits queries mesh place now (slice_get mesh.nodes place) after low e fits

happening_fits : (queries : Mac → Queries) (mesh : Mesh) (h : Happening) (after : Mesh) → h.moment ≤ clock_limit → after_happening (scenario_setup queries) h mesh ≡ Ok after → MeshFits mesh → MeshFits after
happening_fits queries mesh h after low e fits =
    let p = on_ok_ok (with_last (scenario_setup queries) h) (effect (scenario_setup queries) h.class h.place h.moment mesh) after e in
    let f = effect_fits queries mesh h.class h.place h.moment p.0 low p.1 fits in
    subst MeshFits (ok_one (record (with_lines (lines_told (scenario_setup queries) h p.0) p.0) { last = h }) after p.2) (record { logs = f.logs; puts = f.puts })

-- ---- runs
record Fits (t : ℕ) (o : Course) : Type 0 where
  fine : Fine t o
  mesh : MeshFits o.mesh

turn_fits : (queries : Mac → Queries) (t : ℕ) (o after : Course) → FitsPlaces (scenario_setup queries) → t ≤ clock_limit → Fits t o → Turned (scenario_setup queries) t o after → Fits t after
turn_fits queries t o after places low f (rests d e) = subst (Fits t) (sym e) f
turn_fits queries t o after places low f (goes h mesh s n c e) =
    let is = due_is_next t o.mesh f.fine.sound h n in
    let within = is.within in
    record {
      fine = fine_turn (scenario_setup queries) t o after places f.fine (goes h mesh s n c e);
      mesh = subst (λ (x : Course). MeshFits x.mesh) (sym e) (happening_fits queries o.mesh h mesh (omega (arith, low, within)) c f.mesh);
    }
turn_fits queries t o after places low f (stops h limit s n c e) = record {
  fine = fine_turn (scenario_setup queries) t o after places f.fine (stops h limit s n c e);
  mesh = subst (λ (x : Course). MeshFits x.mesh) (sym e) f.mesh;
}

pub run_fits : (queries : Mac → Queries) (t : ℕ) (mesh : Mesh) → FitsPlaces (scenario_setup queries) → t ≤ clock_limit → Fine t (begin mesh) → MeshFits mesh → MeshFits (run_to (scenario_setup queries) t mesh).mesh
unfolding going_on
run_fits queries t mesh places low fine fits =
    (turns_keep (scenario_setup queries) t (Fits t) (λ o f. turn_fits queries t o (turn (scenario_setup queries) t o) places low f (turned (scenario_setup queries) t o)) 82 (begin mesh) (record { fine = fine; mesh = fits })).mesh
