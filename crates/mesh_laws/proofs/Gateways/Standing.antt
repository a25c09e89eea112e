-- That LANs stand, through what is given to nodes.
use Rattle.std.proofs.Common.{◌≡◌, ℕ, suc, ◌+◌, ◌<◌, replicate, Bool, true, false, cond, nat_eq, filter, List, [], ◌∷◌, length, map, slice_get, Option, Some, None, option_map, option_and_then, Ok, refl, sym, ap, ap₂, ◌∙◌, subst, arith}
use Rattle.std.specs.List.{list_any}
use Rattle.std.specs.Option.{option_map_or}
use Rattle.std.proofs.lemmas.Bool.{true≢false}
use Rattle.std.proofs.lemmas.Option.{slice_get-map}
use Rattle.mesh_base.specs.Names.{NamesGiven}
use Rattle.mesh_base.specs.declared.address.Mac.{Mac}
use Rattle.mesh_base.specs.declared.event.Event.{Event}
use Rattle.mesh_base.specs.declared.names.NodeName.{NodeName}
use Rattle.mesh_model.specs.declared.happening.Class.{Class}
use Rattle.mesh_model.specs.declared.happening.Class.TheVariants.{LinkDelivery, LanDelivery, NodeTick}
use Rattle.mesh_model.specs.declared.happening.Happening.{Happening}
use Rattle.mesh_model.specs.Bridges.Claims.{ClaimCalls}
use Rattle.mesh_model.specs.Clients.Lans.{Bridge, LanOf, bridge, with_claim}
use Rattle.mesh_model.specs.Clients.Log.{Tick, LinkFrame, LanFrame}
use Rattle.mesh_model.specs.Net.Due.{ticks_in}
use Rattle.mesh_model.specs.Net.Inputs.{all_given}
use Rattle.mesh_model.specs.Net.Lans.{gets, put_given, put_over, reach_events, with_events}
use Rattle.mesh_model.specs.Net.Mesh.{NodeLog, NetLan, NetLink, SentFrame, LanPut, Mesh, Setup, address_at}
use Rattle.mesh_model.specs.Net.Next.{Has}
use Rattle.mesh_model.specs.Net.Runs.{Course, after_happening, delivered, effect, frame_given, frame_over, throughput_between, tick_given, with_last}
use Rattle.mesh_model.specs.Net.Watching.{lines_told, with_lines}
use Rattle.mesh_model.specs.Net.Sending.{lan_of}
use Rattle.mesh_model.specs.Packets.LanFrames.{LanMessage, Claims, Carries, Nothing, client_frame_in, lan_message_of}
use Rattle.mesh_model.specs.Run.State.{names_of, node_names}
use Rattle.mesh_laws.specs.GatewayLaws.{AreGateways, LansStand, lan_beside}
use Rattle.mesh_laws.proofs.Gateways.Places.{any_has, has_any, lan_found}
use Rattle.mesh_laws.proofs.Gateways.Renewals.{IsSame, all_renew, all_same, given_same}
use Rattle.mesh_laws.proofs.Schedule.Members.{one_some}
use Rattle.mesh_laws.proofs.Schedule.Runs.{Turned, rests, goes, stops}
use Rattle.mesh_laws.proofs.Schedule.Sends.{as_ok, ok_one, on_ok_ok}
use Rattle.mesh_laws.proofs.Schedule.Steps.{step_is}

-- ---- addresses

-- the LAN at a place as its gateways are told, and the one beside a place, by the addresses of nodes
abbrev pub told_by : (ℕ → Mac) → ℕ → NetLan → LanOf
told_by address at lan = record { number = suc at; gateways = map address lan.gateways }

abbrev pub found_by : (ℕ → Mac) → List NetLan → Option ℕ → Option LanOf
found_by address lans o = option_and_then (λ at. option_map (told_by address at) (slice_get lans at)) o

abbrev pub beside_by : (ℕ → Mac) → List NetLan → ℕ → Option LanOf
beside_by address lans place = found_by address lans (lan_of place lans)

-- the address of a node, by its name's record
named_address : (z : Mac) (o : Option NodeLog) → option_map_or (λ (n : NodeLog). n.mac) o z
    ≡ option_map_or (λ (n : NodeName). n.mac) (option_map (λ (node : NodeLog). record { mac = node.mac; name = node.name }) o) z
named_address z None = refl
named_address z (Some node) = refl

by_names : (place : ℕ) (nodes : List NodeLog) (z : Mac) → option_map_or (λ (n : NodeLog). n.mac) (slice_get nodes place) z ≡ option_map_or (λ (n : NodeName). n.mac) (slice_get (node_names nodes) place) z
by_names place nodes z = named_address z (slice_get nodes place)
    ∙ ap (λ o. option_map_or (λ (n : NodeName). n.mac) o z) (sym (slice_get-map (λ (node : NodeLog). record { mac = node.mac; name = node.name }) nodes place))

pub same_addresses : (mesh after : Mesh) → names_of after ≡ names_of mesh → (place : ℕ) → address_at place after.nodes ≡ address_at place mesh.nodes
same_addresses mesh after names place =
    let none : Mac = record { 0 = replicate 6 0 } in
    by_names place after.nodes none
    ∙ ap (λ (n : NamesGiven). option_map_or (λ (m : NodeName). m.mac) (slice_get n.nodes place) none) names
    ∙ sym (by_names place mesh.nodes none)

-- ---- what a step leaves

-- what joins the claims of the nodes that a frame on a LAN comes to, which are all of one LAN
pub record CameToLan (mesh after : Mesh) : Type 0 where
  pub which : ℕ → Bool
  pub joins : ClaimCalls → ClaimCalls
  pub fair : (first second : ℕ) → lan_of first mesh.lans ≡ lan_of second mesh.lans → which first ≡ which second
  pub inside : (place : ℕ) → lan_of place mesh.lans ≡ None → which place ≡ false
  pub nodes : (place : ℕ) (node : NodeLog) → slice_get after.nodes place ≡ Some node →
      (before : NodeLog) × (slice_get mesh.nodes place ≡ Some before)
      × (bridge node.log ≡ cond (which place) (record (bridge before.log) { claims = joins (bridge before.log).claims }) (bridge before.log))

pub came_nowhere : (mesh after : Mesh) → ((place : ℕ) (node : NodeLog) → slice_get after.nodes place ≡ Some node → IsSame mesh place node) → CameToLan mesh after
came_nowhere mesh after same = record {
  which = λ place. false;
  joins = λ claims. claims;
  fair = λ first second e. refl;
  inside = λ place e. refl;
  nodes = same;
}

claims_of : (b : Bridge) (f : ClaimCalls → ClaimCalls) (w : Bool) → (cond w (record b { claims = f b.claims }) b).claims ≡ cond w (f b.claims) b.claims
claims_of b f true = refl
claims_of b f false = refl

lan_kept : (b : Bridge) (f : ClaimCalls → ClaimCalls) (w : Bool) → (cond w (record b { claims = f b.claims }) b).lan ≡ b.lan
lan_kept b f true = refl
lan_kept b f false = refl

-- LANs stand behind a step that leaves LANs, names and places
pub stand_after : (mesh after : Mesh) → LansStand mesh → after.lans ≡ mesh.lans → names_of after ≡ names_of mesh → length after.nodes ≡ length mesh.nodes → CameToLan mesh after → LansStand after
stand_after mesh after stand lans names count came = record {
  gateways = λ place lan found. gateways_stay place lan (stand.gateways place lan (subst (λ ls. slice_get ls place ≡ Some lan) lans found));
  attached = λ place node found.
      let was = came.nodes place node found in
      ap (λ (b : Bridge). b.lan) was.2 ∙ lan_kept (bridge was.0.log) came.joins (came.which place) ∙ stand.attached place was.0 was.1 ∙ sym (beside place);
  outside = λ place node found none.
      let was = came.nodes place node found in
      let free = subst (λ ls. lan_of place ls ≡ None) lans none in
      ap (λ (b : Bridge). b.claims) was.2
      ∙ claims_of (bridge was.0.log) came.joins (came.which place)
      ∙ ap (λ w. cond w (came.joins (bridge was.0.log).claims) (bridge was.0.log).claims) (came.inside place free)
      ∙ stand.outside place was.0 was.1 free;
  agree = λ first second a b here there same.
      let one = came.nodes first a here in
      let two = came.nodes second b there in
      let together = subst (λ ls. lan_of first ls ≡ lan_of second ls) lans same in
      ap (λ (x : Bridge). x.claims) one.2
      ∙ claims_of (bridge one.0.log) came.joins (came.which first)
      ∙ ap₂ (λ w c. cond w (came.joins c) c) (came.fair first second together) (stand.agree first second one.0 two.0 one.1 two.1 together)
      ∙ sym (claims_of (bridge two.0.log) came.joins (came.which second))
      ∙ sym (ap (λ (x : Bridge). x.claims) two.2);
}
  where
    gateways_stay : (place : ℕ) (lan : NetLan) → AreGateways mesh place lan.gateways → AreGateways after place lan.gateways
    gateways_stay place lan g = record {
      rise = g.rise;
      stand = λ gateway has. subst (λ n. gateway < n) (sym count) (g.stand gateway has);
      here = λ gateway has. subst (λ ls. lan_of gateway ls ≡ Some place) (sym lans) (g.here gateway has);
    }

    beside : (place : ℕ) → lan_beside after place ≡ lan_beside mesh place
    beside place = ap₂ (λ address ls. beside_by address ls place) (λ i. λ g. same_addresses mesh after names g i) lans

-- ---- frames on a LAN

all_get : (by : Option ℕ) (gateways : List ℕ) → filter (gets None by) gateways ≡ gateways
all_get by [] = refl
all_get by (gateway ∷ rest) = ap (λ gs. gateway ∷ gs) (all_get by rest)

-- a place is a gateway of a LAN where that is its LAN
in_lan : (mesh : Mesh) (place : ℕ) (lan : NetLan) → LansStand mesh → slice_get mesh.lans place ≡ Some lan → (p : ℕ) → lan_of p mesh.lans ≡ Some place → list_any (nat_eq p) lan.gateways ≡ true
in_lan mesh place lan stand found p at =
    let f = lan_found p 0 mesh.lans place at in
    let same : f.lan ≡ lan = one_some f.lan lan (sym f.found ∙ subst (λ i. slice_get mesh.lans i ≡ Some lan) (f.is ∙ zero_plus f.offset) found) in
    has_any p lan.gateways (subst (λ (l : NetLan). Has l.gateways p) same f.has)
  where
    zero_plus : (n : ℕ) → 0 + n ≡ n
    zero_plus n = omega arith

-- and there alone
alone : (mesh : Mesh) (place : ℕ) (lan : NetLan) → LansStand mesh → slice_get mesh.lans place ≡ Some lan → (p : ℕ) → list_any (nat_eq p) lan.gateways ≡ true → lan_of p mesh.lans ≡ Some place
alone mesh place lan stand found p any = (stand.gateways place lan found).here p (any_has p lan.gateways any)

fair_claims : (mesh : Mesh) (place : ℕ) (lan : NetLan) → LansStand mesh → slice_get mesh.lans place ≡ Some lan → (p q : ℕ) → lan_of p mesh.lans ≡ lan_of q mesh.lans
    → list_any (nat_eq p) lan.gateways ≡ list_any (nat_eq q) lan.gateways
fair_claims mesh place lan stand found p q same = by (list_any (nat_eq p) lan.gateways) (list_any (nat_eq q) lan.gateways) refl refl
  where
    by : (b c : Bool) → list_any (nat_eq p) lan.gateways ≡ b → list_any (nat_eq q) lan.gateways ≡ c → b ≡ c
    by true true e f = refl
    by false false e f = refl
    by true false e f = absurd (true≢false (sym (in_lan mesh place lan stand found q (sym same ∙ alone mesh place lan stand found p e)) ∙ f))
    by false true e f = absurd (true≢false (sym (in_lan mesh place lan stand found p (same ∙ alone mesh place lan stand found q f)) ∙ e))

no_claims : (mesh : Mesh) (place : ℕ) (lan : NetLan) → LansStand mesh → slice_get mesh.lans place ≡ Some lan → (p : ℕ) → lan_of p mesh.lans ≡ None → list_any (nat_eq p) lan.gateways ≡ false
no_claims mesh place lan stand found p none = by (list_any (nat_eq p) lan.gateways) refl
  where
    none_place : (o : Option ℕ) → o ≡ None → o ≡ Some place → ⊥
    none_place None a b = cc
    none_place (Some x) a b = cc

    by : (b : Bool) → list_any (nat_eq p) lan.gateways ≡ b → b ≡ false
    by false e = refl
    by true e = absurd (none_place (lan_of p mesh.lans) none (alone mesh place lan stand found p e))

told_same : (more : List Event) (mesh after : Mesh) → CameToLan (with_events more mesh) after → CameToLan mesh after
told_same more mesh after c = record { which = c.which; joins = c.joins; fair = c.fair; inside = c.inside; nodes = c.nodes }

message_came : (setup : Setup) (now : ℕ) (put : LanPut) (message : LanMessage) (lan : NetLan) (mesh after : Mesh) → LansStand mesh → slice_get mesh.lans put.lan ≡ Some lan → lan_message_of put.bytes ≡ message
    → all_given setup (filter (gets (client_frame_in message) put.by) lan.gateways) now (LanFrame put.bytes) mesh ≡ Ok after → CameToLan mesh after
message_came setup now put (Claims claim sender key) lan mesh after stand found is e = record {
  which = λ p. list_any (nat_eq p) lan.gateways;
  joins = with_claim now (Claims claim sender key);
  fair = fair_claims mesh put.lan lan stand found;
  inside = no_claims mesh put.lan lan stand found;
  nodes = λ place node there.
      let w = all_renew setup lan.gateways now (LanFrame put.bytes) mesh after (stand.gateways put.lan lan found).rise
      (subst (λ gs. all_given setup gs now (LanFrame put.bytes) mesh ≡ Ok after) (all_get put.by lan.gateways) e) place node there in (
        w.0,
        w.1,
        w.2 ∙ ap (λ m. cond (list_any (nat_eq place) lan.gateways) (record (bridge w.0.log) { claims = with_claim now m (bridge w.0.log).claims }) (bridge w.0.log)) is,
      );
}
message_came setup now put (Carries frame) lan mesh after stand found is e = came_nowhere mesh after
    (all_same setup (filter (gets (Some frame) put.by) lan.gateways) now (LanFrame put.bytes) mesh after (λ b. ap (λ m. record b { claims = with_claim now m b.claims }) is) e)
message_came setup now put Nothing lan mesh after stand found is e = came_nowhere mesh after
    (all_same setup (filter (gets None put.by) lan.gateways) now (LanFrame put.bytes) mesh after (λ b. ap (λ m. record b { claims = with_claim now m b.claims }) is) e)

ended_there : (mesh after : Mesh) → as_ok mesh ≡ as_ok after → CameToLan mesh after
ended_there mesh after e = came_nowhere mesh after (λ place node found. (node, subst (λ (m : Mesh). slice_get m.nodes place ≡ Some node) (sym (ok_one mesh after e)) found, refl))

-- with further events, LANs stand as before
pub told_stand : (more : List Event) (mesh : Mesh) → LansStand mesh → LansStand (with_events more mesh)
told_stand more mesh s = record {
  gateways = λ place lan found. let g = s.gateways place lan found in record { rise = g.rise; stand = g.stand; here = g.here };
  attached = s.attached;
  outside = s.outside;
  agree = s.agree;
}

over_came : (setup : Setup) (now : ℕ) (put : LanPut) (o : Option NetLan) (mesh after : Mesh) → LansStand mesh → slice_get mesh.lans put.lan ≡ o
    → put_over setup now put (client_frame_in (lan_message_of put.bytes)) o mesh ≡ Ok after → CameToLan mesh after
over_came setup now put None mesh after stand found e = ended_there mesh after e
over_came setup now put (Some lan) mesh after stand found e =
    let more = reach_events now put.lan put.by (client_frame_in (lan_message_of put.bytes)) in
    told_same more mesh after (message_came setup now put (lan_message_of put.bytes) lan (with_events more mesh) after (told_stand more mesh stand) found refl e)

put_came : (setup : Setup) (now : ℕ) (o : Option LanPut) (mesh after : Mesh) → LansStand mesh → put_given setup now o mesh ≡ Ok after → CameToLan mesh after
put_came setup now None mesh after stand e = ended_there mesh after e
put_came setup now (Some put) mesh after stand e = over_came setup now put (slice_get mesh.lans put.lan) mesh after stand refl e

-- ---- happenings

link_came : (setup : Setup) (place now : ℕ) (frame : SentFrame) (o : Option NetLink) (mesh after : Mesh) → frame_over setup place now frame o mesh ≡ Ok after → CameToLan mesh after
link_came setup place now frame None mesh after e = ended_there mesh after e
link_came setup place now frame (Some link) mesh after e = came_nowhere mesh after
    (given_same setup link.to now frame.root (LinkFrame (suc place) (address_at link.from mesh.nodes) (throughput_between link.to link.from mesh.links) frame.bytes) mesh after (λ b. refl) e)

frame_came : (setup : Setup) (place now : ℕ) (o : Option SentFrame) (mesh after : Mesh) → frame_given setup place now o mesh ≡ Ok after → CameToLan mesh after
frame_came setup place now None mesh after e = ended_there mesh after e
frame_came setup place now (Some frame) mesh after e = link_came setup place now frame (slice_get mesh.links frame.link) mesh after e

pub delivered_came : (setup : Setup) (place now : ℕ) (mesh after : Mesh) → delivered setup place now mesh ≡ Ok after → CameToLan mesh after
delivered_came setup place now mesh after e = frame_came setup place now (slice_get mesh.frames place) mesh after e

tick_came : (setup : Setup) (place now : ℕ) (o : Option NodeLog) (mesh after : Mesh) → tick_given setup place now o mesh ≡ Ok after → CameToLan mesh after
tick_came setup place now None mesh after e = ended_there mesh after e
tick_came setup place now (Some node) mesh after e =
    came_nowhere mesh after (given_same setup place now (suc (ticks_in node.log)) (Tick (suc (ticks_in node.log))) mesh after (λ b. refl) e)

effect_came : (setup : Setup) (class : Class) (place now : ℕ) (mesh after : Mesh) → LansStand mesh → effect setup class place now mesh ≡ Ok after → CameToLan mesh after
effect_came setup LinkDelivery place now mesh after stand e = delivered_came setup place now mesh after e
effect_came setup LanDelivery place now mesh after stand e = put_came setup now (slice_get mesh.puts place) mesh after stand e
effect_came setup NodeTick place now mesh after stand e = tick_came setup place now (slice_get mesh.nodes place) mesh after e

with_last_came : (mesh mid after : Mesh) → after.nodes ≡ mid.nodes → CameToLan mesh mid → CameToLan mesh after
with_last_came mesh mid after nodes c = record {
  which = c.which;
  joins = c.joins;
  fair = c.fair;
  inside = c.inside;
  nodes = λ place node found. c.nodes place node (subst (λ ns. slice_get ns place ≡ Some node) nodes found);
}

pub happenings_stand : (setup : Setup) (mesh after : Mesh) (h : Happening) → LansStand mesh → after_happening setup h mesh ≡ Ok after → LansStand after
happenings_stand setup mesh after h stand e =
    let step = step_is setup mesh h after e in
    let p = on_ok_ok (with_last setup h) (effect setup h.class h.place h.moment mesh) after e in
    let came = effect_came setup h.class h.place h.moment mesh p.0 stand p.1 in
    let nodes : after.nodes ≡ p.0.nodes = ap (λ (m : Mesh). m.nodes) (sym (ok_one (record (with_lines (lines_told setup h p.0) p.0) { last = h }) after p.2)) in
    stand_after mesh after stand step.adds.lans step.names step.count (with_last_came mesh p.0 after nodes came)

pub turn_stands : (setup : Setup) (t : ℕ) (o after : Course) → LansStand o.mesh → Turned setup t o after → LansStand after.mesh
turn_stands setup t o after stand (rests d e) = subst (λ (x : Course). LansStand x.mesh) (sym e) stand
turn_stands setup t o after stand (goes h mesh s n c e) = subst (λ (x : Course). LansStand x.mesh) (sym e) (happenings_stand setup o.mesh mesh h stand c)
turn_stands setup t o after stand (stops h limit s n c e) = subst (λ (x : Course). LansStand x.mesh) (sym e) stand
