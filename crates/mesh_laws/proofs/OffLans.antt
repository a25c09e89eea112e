-- A node that is of no LAN is no gateway by its log, and reboots only so, whatever it is given that the
-- net gives it.
use Rattle.std.proofs.Common.{◌≡◌, ◌∙◌, refl, sym, ap, subst, ℕ, zero, suc, ◌<◌, Bool, true, false, cond, nat_eq, List, [], ◌∷◌, ◌++◌, length, filter, slice_get, Option, Some, None, Ok, inl, inr}
use Rattle.std.specs.Prelude.{◌⊎◌}
use Rattle.std.specs.List.{list_any}
use Rattle.std.proofs.lemmas.Bool.{true≢false}
use Rattle.mesh_model.specs.declared.happening.Class.{Class}
use Rattle.mesh_model.specs.declared.happening.Class.TheVariants.{LinkDelivery, LanDelivery, NodeTick}
use Rattle.mesh_model.specs.declared.happening.Happening.{Happening}
use Rattle.mesh_model.specs.Clients.Lans.{Bridge, bridge, next_bridge, no_bridge}
use Rattle.mesh_model.specs.Clients.Log.{Given, Tick, LinkFrame, LanFrame, Line, LineGiven, LogEntry, is_reboot, line_reboots}
use Rattle.mesh_model.specs.Net.Due.{ticks_in}
use Rattle.mesh_model.specs.Net.Inputs.{all_given, after_entry, entry_of, given_node, given_to, noted, noted_at, noting}
use Rattle.mesh_model.specs.Net.Lans.{attachment, gets, joins_lan, put_given, put_over, reach_events, with_events, with_lan}
use Rattle.mesh_model.specs.Net.Mesh.{NodeLog, NetLan, NetLink, LanPut, SentFrame, Mesh, Setup, address_at}
use Rattle.mesh_model.specs.Net.Next.{Has}
use Rattle.mesh_model.specs.Net.Runs.{Course, after_happening, begin, delivered, effect, frame_given, frame_over, going_on, run_to, throughput_between, tick_given, turn, with_last}
use Rattle.mesh_model.specs.Net.Watching.{lines_told, with_lines}
use Rattle.mesh_model.specs.Net.Sending.{Actor, after_acts, lan_from, lan_of, with_put}
use Rattle.mesh_model.specs.Packets.LanFrames.{client_frame_in, lan_message_of}
use Rattle.mesh_model.specs.Packets.Payload.{ClientFrame}
use Rattle.mesh_laws.specs.GatewayLaws.{IsNoLan}
use Rattle.mesh_laws.specs.LastLogLaws.{RebootsOffLans}
use Rattle.mesh_laws.proofs.Gateways.Places.{has_any, old_stays}
use Rattle.mesh_laws.proofs.Gateways.Renewals.{line_quiet}
use Rattle.mesh_laws.proofs.Schedule.Members.{filter_has, get_last}
use Rattle.mesh_laws.proofs.Schedule.Runs.{Turned, goes, rests, stops, turned, turns_keep}
use Rattle.mesh_laws.proofs.Schedule.Sends.{Sends, acts_send, as_ok, ok_one, on_ok_ok, sends_put}
use Rattle.mesh_laws.proofs.Schedule.Steps.{Before1, itself, not_passed, other, renewed}

-- ---- nodes off LANs
-- a node at a place reboots while it is of none of these LANs, and while it is of none, it is no gateway by its log
pub record IsOff (lans : List NetLan) (place : ℕ) (node : NodeLog) : Type 0 where
  pub reboots : RebootsOffLans node.log
  pub bare : lan_of place lans ≡ None → bridge node.log ≡ no_bridge

abbrev pub AreOff : Mesh → Type 0
AreOff mesh = (place : ℕ) (node : NodeLog) → slice_get mesh.nodes place ≡ Some node → IsOff mesh.lans place node

-- what may be given so: a reboot off LANs; and off LANs nothing that makes a gateway
pub record MayBeGiven (lans : List NetLan) (place now : ℕ) (given : Given) : Type 0 where
  pub reboots : is_reboot given ≡ true → lan_of place lans ≡ None
  pub bare : lan_of place lans ≡ None → next_bridge no_bridge now given ≡ no_bridge

-- ---- one input
same_off : (mesh after : Mesh) → as_ok mesh ≡ as_ok after → AreOff mesh → AreOff after
same_off mesh after e off = subst AreOff (ok_one mesh after e) off

noted_off : (lans : List NetLan) (at : ℕ) (entry : LogEntry) (place : ℕ) (node before : NodeLog) → MayBeGiven lans at entry.moment entry.given → IsOff lans place before → at ≡ place → node ≡ noting entry before → IsOff lans place node
noted_off lans at entry place node before may off here is = subst (IsOff lans place) (sym is) (record {
  reboots = (λ reboots. off.bare (ap (λ p. lan_of p lans) (sym here) ∙ may.reboots reboots), off.reboots);
  bare = λ none. ap (λ (b : Bridge). next_bridge b entry.moment entry.given) (off.bare none) ∙ may.bare (ap (λ p. lan_of p lans) here ∙ none);
})

either_off : (lans : List NetLan) (at : ℕ) (entry : LogEntry) (nodes : List NodeLog) (place : ℕ) (node : NodeLog) → MayBeGiven lans at entry.moment entry.given → ((p : ℕ) (n : NodeLog) → slice_get nodes p ≡ Some n → IsOff lans p n)
    → Before1 at entry nodes place node → IsOff lans place node
either_off lans at entry nodes place node may off (before, found, other d e) = subst (IsOff lans place) (sym e) (off place before found)
either_off lans at entry nodes place node may off (before, found, itself here e) = noted_off lans at entry place node before may (off place before found) here e

-- what an input leaves: the LANs, and nodes off LANs
pub record Stays (mesh after : Mesh) : Type 0 where
  pub lans : after.lans ≡ mesh.lans
  pub off : AreOff after

node_off : (setup : Setup) (at now root : ℕ) (given : Given) (o : Option NodeLog) (mesh after : Mesh) → AreOff mesh → MayBeGiven mesh.lans at now given → given_node setup at now root given o mesh ≡ Ok after → Stays mesh after
node_off setup at now root given None mesh after off may e = record { lans = ap (λ (m : Mesh). m.lans) (sym (ok_one mesh after e)); off = same_off mesh after e off }
node_off setup at now root given (Some n) mesh after off may e = record {
  lans = ap (λ (m : Mesh). m.lans) (sym same) ∙ sends.adds.lans;
  off = λ place node found.
      subst (λ ls. IsOff ls place node) (sym (ap (λ (m : Mesh). m.lans) (sym same) ∙ sends.adds.lans))
      (either_off mesh.lans at entry mesh.nodes place node may off
      (renewed at entry mesh.nodes place node (subst (λ ns. slice_get (noted_at at entry ns) place ≡ Some node) sends.nodes (subst (λ (m : Mesh). slice_get m.nodes place ≡ Some node) (sym same) found))));
}
  where
    actor : Actor
    actor = record { place = at; mac = n.mac; now = now; root = root }

    entry : LogEntry
    entry = entry_of setup n now given

    mid : (m : Mesh) × (after_acts setup actor entry.acts mesh ≡ Ok m) × (noted at entry m ≡ Ok after)
    mid = on_ok_ok (noted at entry) (after_acts setup actor entry.acts mesh) after (not_passed setup actor mesh (setup.node_limit n.mac n.log now given) (after_entry setup actor entry mesh) after e)

    sends : Sends setup now mesh mid.0
    sends = acts_send setup actor entry.acts mesh mid.0 mid.1

    same : record mid.0 { nodes = noted_at at entry mid.0.nodes } ≡ after
    same = ok_one (record mid.0 { nodes = noted_at at entry mid.0.nodes }) after mid.2

pub given_off : (setup : Setup) (at now root : ℕ) (given : Given) (mesh after : Mesh) → AreOff mesh → MayBeGiven mesh.lans at now given → given_to setup at now root given mesh ≡ Ok after → Stays mesh after
given_off setup at now root given mesh after off may e = node_off setup at now root given (slice_get mesh.nodes at) mesh after off may e

pub all_off : (setup : Setup) (places : List ℕ) (now : ℕ) (given : Given) (mesh after : Mesh) → AreOff mesh → ((p : ℕ) → Has places p → MayBeGiven mesh.lans p now given) → all_given setup places now given mesh ≡ Ok after → AreOff after
all_off setup [] now given mesh after off may e = same_off mesh after e off
all_off setup (at ∷ rest) now given mesh after off may e =
    let p = on_ok_ok (all_given setup rest now given) (given_to setup at now 0 given mesh) after e in
    let one = given_off setup at now 0 given mesh p.0 off (may at (inl refl)) p.1 in
    all_off setup rest now given p.0 after one.off (λ q has. subst (λ ls. MayBeGiven ls q now given) (sym one.lans) (may q (inr has))) p.2

-- ---- what may be given
pub line_may : (lans : List NetLan) (place now : ℕ) (line : LineGiven) → IsNoLan line → (line_reboots line ≡ true → lan_of place lans ≡ None) → MayBeGiven lans place now (Line line)
line_may lans place now line plain reboots = record { reboots = reboots; bare = λ none. line_quiet now line plain no_bridge }

-- a gateway is of a LAN
none_here : (p start : ℕ) (first : NetLan) (rest : List NetLan) (b : Bool) → list_any (nat_eq p) first.gateways ≡ b → cond b (Some start) (lan_from p (suc start) rest) ≡ None → (b ≡ false) × (lan_from p (suc start) rest ≡ None)
none_here p start first rest true is none = cc
none_here p start first rest false is none = (refl, none)

is_of_one : (p start : ℕ) (lans : List NetLan) (at : ℕ) (lan : NetLan) → slice_get lans at ≡ Some lan → Has lan.gateways p → lan_from p start lans ≡ None → ⊥
is_of_one p start [] at lan found has none = cc
is_of_one p start (first ∷ rest) zero lan found has none =
    let h = none_here p start first rest (list_any (nat_eq p) first.gateways) refl none in
    let same : first ≡ lan = cc in
    true≢false (sym (has_any p first.gateways (subst (λ (l : NetLan). Has l.gateways p) (sym same) has)) ∙ h.0)
is_of_one p start (first ∷ rest) (suc at) lan found has none =
    is_of_one p (suc start) rest at lan found has (none_here p start first rest (list_any (nat_eq p) first.gateways) refl none).1

gateway_may : (lans : List NetLan) (at : ℕ) (lan : NetLan) (place now : ℕ) (given : Given) → slice_get lans at ≡ Some lan → Has lan.gateways place → is_reboot given ≡ false → MayBeGiven lans place now given
gateway_may lans at lan place now given found has calm = record {
  reboots = λ is. absurd (true≢false (sym is ∙ calm));
  bare = λ none. absurd (is_of_one place 0 lans at lan found has none);
}

-- ---- happenings
link_off : (setup : Setup) (place now : ℕ) (frame : SentFrame) (o : Option NetLink) (mesh after : Mesh) → AreOff mesh → frame_over setup place now frame o mesh ≡ Ok after → AreOff after
link_off setup place now frame None mesh after off e = same_off mesh after e off
link_off setup place now frame (Some link) mesh after off e =
    (given_off setup link.to now frame.root (LinkFrame (suc place) (address_at link.from mesh.nodes) (throughput_between link.to link.from mesh.links) frame.bytes) mesh after off
    (record { reboots = λ is. cc; bare = λ none. refl }) e).off

frame_off : (setup : Setup) (place now : ℕ) (o : Option SentFrame) (mesh after : Mesh) → AreOff mesh → frame_given setup place now o mesh ≡ Ok after → AreOff after
frame_off setup place now None mesh after off e = same_off mesh after e off
frame_off setup place now (Some frame) mesh after off e = link_off setup place now frame (slice_get mesh.links frame.link) mesh after off e

pub delivered_off : (setup : Setup) (place now : ℕ) (mesh after : Mesh) → AreOff mesh → delivered setup place now mesh ≡ Ok after → AreOff after
delivered_off setup place now mesh after off e = frame_off setup place now (slice_get mesh.frames place) mesh after off e

tick_off : (setup : Setup) (place now : ℕ) (o : Option NodeLog) (mesh after : Mesh) → AreOff mesh → tick_given setup place now o mesh ≡ Ok after → AreOff after
tick_off setup place now None mesh after off e = same_off mesh after e off
tick_off setup place now (Some node) mesh after off e =
    (given_off setup place now (suc (ticks_in node.log)) (Tick (suc (ticks_in node.log))) mesh after off (record { reboots = λ is. cc; bare = λ none. refl }) e).off

over_off : (setup : Setup) (now : ℕ) (put : LanPut) (frame : Option ClientFrame) (o : Option NetLan) (mesh after : Mesh) → AreOff mesh → slice_get mesh.lans put.lan ≡ o → put_over setup now put frame o mesh ≡ Ok after → AreOff after
over_off setup now put frame None mesh after off found e = same_off mesh after e off
over_off setup now put frame (Some lan) mesh after off found e =
    all_off setup (filter (gets frame put.by) lan.gateways) now (LanFrame put.bytes) (with_events (reach_events now put.lan put.by frame) mesh) after off
    (λ p has. gateway_may mesh.lans put.lan lan p now (LanFrame put.bytes) found (filter_has (gets frame put.by) lan.gateways p has).1 refl) e

put_off : (setup : Setup) (now : ℕ) (o : Option LanPut) (mesh after : Mesh) → AreOff mesh → put_given setup now o mesh ≡ Ok after → AreOff after
put_off setup now None mesh after off e = same_off mesh after e off
put_off setup now (Some put) mesh after off e = over_off setup now put (client_frame_in (lan_message_of put.bytes)) (slice_get mesh.lans put.lan) mesh after off refl e

effect_off : (setup : Setup) (class : Class) (place now : ℕ) (mesh after : Mesh) → AreOff mesh → effect setup class place now mesh ≡ Ok after → AreOff after
effect_off setup LinkDelivery place now mesh after off e = delivered_off setup place now mesh after off e
effect_off setup LanDelivery place now mesh after off e = put_off setup now (slice_get mesh.puts place) mesh after off e
effect_off setup NodeTick place now mesh after off e = tick_off setup place now (slice_get mesh.nodes place) mesh after off e

happening_off : (setup : Setup) (h : Happening) (mesh after : Mesh) → AreOff mesh → after_happening setup h mesh ≡ Ok after → AreOff after
happening_off setup h mesh after off e =
    let p = on_ok_ok (with_last setup h) (effect setup h.class h.place h.moment mesh) after e in
    same_off (record (with_lines (lines_told setup h p.0) p.0) { last = h }) after p.2 (effect_off setup h.class h.place h.moment mesh p.0 off p.1)

turn_off : (setup : Setup) (t : ℕ) (o after : Course) → AreOff o.mesh → Turned setup t o after → AreOff after.mesh
turn_off setup t o after off (rests d e) = subst (λ (x : Course). AreOff x.mesh) (sym e) off
turn_off setup t o after off (goes h mesh s n c e) = subst (λ (x : Course). AreOff x.mesh) (sym e) (happening_off setup h o.mesh mesh off c)
turn_off setup t o after off (stops h limit s n c e) = subst (λ (x : Course). AreOff x.mesh) (sym e) off

pub run_off : (setup : Setup) (t : ℕ) (mesh : Mesh) → AreOff mesh → AreOff (run_to setup t mesh).mesh
unfolding going_on
run_off setup t mesh off = turns_keep setup t (λ o. AreOff o.mesh) (λ o s. turn_off setup t o (turn setup t o) s (turned setup t o)) 82 (begin mesh) off

-- ---- what joins
pub node_joins_off : (mesh : Mesh) (new : NodeLog) → AreOff mesh → new.log ≡ [] → AreOff (record mesh { nodes = mesh.nodes ++ new ∷ [] })
node_joins_off mesh new off empty place node found = go (get_last mesh.nodes new place node found)
  where
    fresh : IsOff mesh.lans place new
    fresh = record { reboots = subst RebootsOffLans (sym empty) tt; bare = λ none. ap bridge empty }

    go : (slice_get mesh.nodes place ≡ Some node) ⊎ (node ≡ new) → IsOff mesh.lans place node
    go (inl old) = off place node old
    go (inr is) = subst (IsOff mesh.lans place) (sym is) fresh

pub put_joins_off : (setup : Setup) (put : LanPut) (mesh after : Mesh) → AreOff mesh → put.lan < length mesh.lans → with_put setup put mesh ≡ Ok after → AreOff after
put_joins_off setup put mesh after off low e place node found =
    let sends = sends_put setup put mesh after low e in
    subst (λ ls. IsOff ls place node) (sym sends.adds.lans) (off place node (subst (λ ns. slice_get ns place ≡ Some node) sends.nodes found))

none_before : (lans : List NetLan) (lan : NetLan) (p : ℕ) (o : Option ℕ) → lan_of p lans ≡ o → lan_of p (lans ++ lan ∷ []) ≡ None → lan_of p lans ≡ None
none_before lans lan p None is none = is
none_before lans lan p (Some at) is none = let never : ◌≡◌ {A = Option ℕ} (Some at) None = sym (old_stays p 0 lans lan at is) ∙ none in cc

lan_there : (lans : List NetLan) (lan : NetLan) → slice_get (lans ++ lan ∷ []) (length lans) ≡ Some lan
lan_there [] lan = refl
lan_there (first ∷ rest) lan = lan_there rest lan

pub lan_joins_off : (setup : Setup) (name gateways : List ℕ) (now : ℕ) (mesh after : Mesh) → AreOff mesh → joins_lan setup name gateways now mesh ≡ Ok after → AreOff after
lan_joins_off setup name gateways now mesh after off e =
    let lan : NetLan = record { name = name; gateways = gateways } in
    all_off setup gateways now (attachment mesh gateways) (with_lan lan mesh) after
    (λ place node found. let was = off place node found in record { reboots = was.reboots; bare = λ none. was.bare (none_before mesh.lans lan place (lan_of place mesh.lans) refl none) })
    (λ p has. gateway_may (mesh.lans ++ lan ∷ []) (length mesh.lans) lan p now (attachment mesh gateways) (lan_there mesh.lans lan) has refl) e
