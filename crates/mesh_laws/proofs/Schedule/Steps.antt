-- What carrying a happening out leaves.
use Rattle.std.proofs.Common.{◌≡◌, ℕ, zero, suc, ◌+◌, ◌-◌, ◌<◌, ◌⊎◌, inl, inr, true, false, cond, nat_eq, List, [], ◌∷◌, ◌++◌, length, map, filter, slice_get, Option, Some, None, Ok, Err, refl, sym, ap, ap₂, ◌∙◌, subst, arith, append_assoc}
use Rattle.std.proofs.lemmas.Bool.{eq-eqb, ne_eqb}
use Rattle.mesh_base.specs.Names.{NamesGiven}
use Rattle.mesh_base.specs.declared.event.Event.{Event}
use Rattle.mesh_base.specs.declared.names.NodeName.{NodeName}
use Rattle.mesh_model.specs.declared.ending.LimitName.{LimitName}
use Rattle.mesh_model.specs.declared.happening.Class.{Class}
use Rattle.mesh_model.specs.declared.happening.Class.TheVariants.{LinkDelivery, LanDelivery, NodeTick}
use Rattle.mesh_model.specs.declared.happening.Happening.{Happening}
use Rattle.mesh_model.specs.Acts.NodeLimits.{NodeLimit}
use Rattle.mesh_model.specs.Clients.Log.{Given, Tick, LinkFrame, LanFrame, Line, LogEntry}
use Rattle.mesh_model.specs.Net.Mesh.{NetLan, NetLink, SentFrame, LanPut, NodeLog, Mesh, Setup, address_at}
use Rattle.mesh_model.specs.Net.Sending.{Attempt, Actor, after_acts, on_ok, with_put}
use Rattle.mesh_model.specs.Net.Inputs.{noting, noted_at, noted, after_entry, entry_of, unless_passed, given_node, given_to, all_given}
use Rattle.mesh_model.specs.Net.Lans.{attachment, gets, joins_lan, reach_events, with_events, with_lan, put_over, put_given}
use Rattle.mesh_model.specs.Net.Due.{ticks_by, ticks_in}
use Rattle.mesh_model.specs.Net.Next.{Has}
use Rattle.mesh_model.specs.Net.Runs.{throughput_between, frame_over, frame_given, delivered, tick_given, effect, with_last, after_happening}
use Rattle.mesh_model.specs.Net.Watching.{lines_told, route_event, with_lines}
use Rattle.mesh_model.specs.Packets.LanFrames.{client_frame_in, lan_message_of}
use Rattle.mesh_model.specs.Packets.Payload.{ClientFrame}
use Rattle.mesh_model.specs.Run.State.{names_of, node_names}
use Rattle.mesh_laws.specs.Soundness.{GivesItsBytes}
use Rattle.mesh_laws.proofs.Schedule.Members.{one_some}
use Rattle.mesh_laws.proofs.Schedule.Sends.{as_ok, ok_one, on_ok_ok, Adds, adds_events, adds_nothing, adds_both, acts_send, sends_put}

-- ---- what becomes of the nodes
pub get_front : {X : Type 0} (xs ys : List X) (i : ℕ) (x : X) → slice_get xs i ≡ Some x → slice_get (xs ++ ys) i ≡ Some x
get_front [] ys i x e = cc
get_front (z ∷ zs) ys zero x e = e
get_front (z ∷ zs) ys (suc i) x e = get_front zs ys i x e

pub gave_later : (before more : List SentFrame) (given : Given) → GivesItsBytes before given → GivesItsBytes (before ++ more) given
gave_later before more (Tick index) g = tt
gave_later before more (LinkFrame number from throughput bytes) g = (g.0, get_front before more (number - 1) g.0 g.1, g.2)
gave_later before more (LanFrame bytes) g = tt
gave_later before more (Line line) g = tt

-- a node after it had so many more ticks, and was given frames with the bytes of these
pub record Grew (frames : List SentFrame) (extra : ℕ) (node after : NodeLog) : Type 0 where
  pub made : after.made ≡ node.made
  pub ticks : ticks_in after.log ≡ extra + ticks_in node.log
  pub entries : (e : LogEntry) → Has after.log e → Has node.log e ⊎ GivesItsBytes frames e.given

pub record Was (nodes : List NodeLog) (frames : List SentFrame) (extra place : ℕ) (after : NodeLog) : Type 0 where
  pub node : NodeLog
  pub found : slice_get nodes place ≡ Some node
  pub grew : Grew frames extra node after

-- what an input, or several, leave; `extra` says how many ticks the node at a place had
pub record Effect (setup : Setup) (extra : ℕ → ℕ) (now : ℕ) (mesh after : Mesh) : Type 0 where
  pub nodes : (place : ℕ) (node : NodeLog) → slice_get after.nodes place ≡ Some node → Was mesh.nodes after.frames (extra place) place node
  pub count : length after.nodes ≡ length mesh.nodes
  pub names : names_of after ≡ names_of mesh
  pub last : after.last ≡ mesh.last
  pub watch : after.watch ≡ mesh.watch
  pub adds : Adds setup now mesh after

no_extra : (n extra : ℕ) → extra ≡ 0 → n ≡ extra + n
no_extra n extra e = omega (arith, e)

no_effect : (setup : Setup) (extra : ℕ → ℕ) (now : ℕ) (mesh after : Mesh) → ((place : ℕ) (node : NodeLog) → slice_get mesh.nodes place ≡ Some node → extra place ≡ 0) → as_ok mesh ≡ as_ok after → Effect setup extra now mesh after
no_effect setup extra now mesh after none e = subst (Effect setup extra now mesh) (ok_one mesh after e) (record {
  nodes = λ place node found. record { node = node; found = found; grew = record { made = refl; ticks = no_extra (ticks_in node.log) (extra place) (none place node found); entries = λ e h. inl h } };
  count = refl;
  names = refl;
  last = refl;
  watch = refl;
  adds = adds_nothing setup now mesh;
})

-- the node at a place after another or itself noted an entry
pub data Renewed (at : ℕ) (entry : LogEntry) (place : ℕ) (node after : NodeLog) : Type 0 where
  other : (at ≡ place → ⊥) → after ≡ node → Renewed at entry place node after
  itself : at ≡ place → after ≡ noting entry node → Renewed at entry place node after

renewed_next : (at : ℕ) (entry : LogEntry) (place : ℕ) (node after : NodeLog) → Renewed at entry place node after → Renewed (suc at) entry (suc place) node after
renewed_next at entry place node after (other d e) = other (λ q. d (omega (arith, q))) e
renewed_next at entry place node after (itself p e) = itself (ap suc p) e

abbrev pub Before1 : ℕ → LogEntry → List NodeLog → ℕ → NodeLog → Type 0
Before1 at entry nodes place after = (node : NodeLog) × (slice_get nodes place ≡ Some node) × Renewed at entry place node after

pub renewed : (at : ℕ) (entry : LogEntry) (nodes : List NodeLog) (place : ℕ) (after : NodeLog) → slice_get (noted_at at entry nodes) place ≡ Some after → Before1 at entry nodes place after
renewed at entry [] place after e = cc
renewed zero entry (node ∷ rest) zero after e = (node, refl, itself refl (sym (one_some (noting entry node) after e)))
renewed zero entry (node ∷ rest) (suc place) after e = (after, e, other (λ q. omega (arith, q)) refl)
renewed (suc at) entry (node ∷ rest) zero after e = (node, refl, other (λ q. omega (arith, q)) (sym (one_some node after e)))
renewed (suc at) entry (node ∷ rest) (suc place) after e =
    let w = renewed at entry rest place after e in
    (w.0, w.1, renewed_next at entry place w.0 after w.2)

length_noted : (at : ℕ) (entry : LogEntry) (nodes : List NodeLog) → length (noted_at at entry nodes) ≡ length nodes
length_noted at entry [] = refl
length_noted zero entry (node ∷ rest) = refl
length_noted (suc at) entry (node ∷ rest) = ap suc (length_noted at entry rest)

names_noted : (at : ℕ) (entry : LogEntry) (nodes : List NodeLog) → node_names (noted_at at entry nodes) ≡ node_names nodes
names_noted at entry [] = refl
names_noted zero entry (node ∷ rest) = refl
names_noted (suc at) entry (node ∷ rest) = ap (λ ns. record { mac = node.mac; name = node.name } ∷ ns) (names_noted at entry rest)

-- the names of nodes and of these LANs
abbrev named : List NodeName → List NetLan → NamesGiven
named nodes lans = record { nodes = nodes; lans = map (λ (lan : NetLan). lan.name) lans }

-- what an entry at a place adds to the ticks of the node at another
abbrev pub at_place : ℕ → ℕ → ℕ → ℕ
at_place at more place = cond (nat_eq at place) more 0

grew_from : (frames : List SentFrame) (at : ℕ) (entry : LogEntry) (place : ℕ) (node after : NodeLog) → GivesItsBytes frames entry.given → Renewed at entry place node after → Grew frames (at_place at (ticks_by entry.given) place) node after
grew_from frames at entry place node after g (other d e) = record {
  made = ap (λ (x : NodeLog). x.made) e;
  ticks = ap (λ (x : NodeLog). ticks_in x.log) e ∙ no_extra (ticks_in node.log) (at_place at (ticks_by entry.given) place) (ap (λ b. cond b (ticks_by entry.given) 0) (ne_eqb at place d));
  entries = λ x h. inl (subst (λ (n : NodeLog). Has n.log x) e h);
}
grew_from frames at entry place node after g (itself p e) = record {
  made = ap (λ (x : NodeLog). x.made) e;
  ticks = ap (λ (x : NodeLog). ticks_in x.log) e ∙ ap (λ b. cond b (ticks_by entry.given) 0 + ticks_in node.log) (sym (eq-eqb at place p));
  entries = λ x h. either x (subst (λ (n : NodeLog). Has n.log x) e h);
}
  where
    either : (x : LogEntry) → (x ≡ entry) ⊎ Has node.log x → Has node.log x ⊎ GivesItsBytes frames x.given
    either x (inl same) = inr (subst (λ (y : LogEntry). GivesItsBytes frames y.given) (sym same) g)
    either x (inr h) = inl h

entry_effect : (setup : Setup) (mesh : Mesh) (actor : Actor) (entry : LogEntry) (after : Mesh) → GivesItsBytes mesh.frames entry.given → after_entry setup actor entry mesh ≡ Ok after → Effect setup (at_place actor.place (ticks_by entry.given)) actor.now mesh after
entry_effect setup mesh actor entry after g e =
    let p = on_ok_ok (noted actor.place entry) (after_acts setup actor entry.acts mesh) after e in
    let sends = acts_send setup actor entry.acts mesh p.0 p.1 in
    let gave : GivesItsBytes p.0.frames entry.given = subst (λ fs. GivesItsBytes fs entry.given) (sym sends.adds.frames) (gave_later mesh.frames sends.adds.more entry.given g) in
    subst (Effect setup (at_place actor.place (ticks_by entry.given)) actor.now mesh) (ok_one (record p.0 { nodes = noted_at actor.place entry p.0.nodes }) after p.2) (record {
      nodes = λ place n found.
          let w = renewed actor.place entry mesh.nodes place n (subst (λ ns. slice_get (noted_at actor.place entry ns) place ≡ Some n) sends.nodes found) in
          record { node = w.0; found = w.1; grew = grew_from p.0.frames actor.place entry place w.0 n gave w.2 };
      count = length_noted actor.place entry p.0.nodes ∙ ap length sends.nodes;
      names = ap₂ named (names_noted actor.place entry p.0.nodes ∙ ap node_names sends.nodes) sends.adds.lans;
      last = sends.last;
      watch = sends.watch;
      adds = record { links = sends.adds.links; lans = sends.adds.lans; more = sends.adds.more; frames = sends.adds.frames; sent = sends.adds.sent; on_links = sends.adds.on_links; more_puts = sends.adds.more_puts; puts = sends.adds.puts; put = sends.adds.put; on_lans = sends.adds.on_lans; more_events = sends.adds.more_events; events = sends.adds.events; few = sends.adds.few; few_puts = sends.adds.few_puts };
    })

-- a step after which there is a mesh passed no limit before it
limit_stops : (limit : LimitName) (first : Attempt) (after : Mesh) → on_ok (λ mid. Err limit) first ≡ Ok after → ⊥
limit_stops limit (Ok mid) after e = cc
limit_stops limit (Err first) after e = cc

pub not_passed : (setup : Setup) (actor : Actor) (mesh : Mesh) (o : Option NodeLimit) (step : Attempt) (after : Mesh) → unless_passed setup actor mesh o step ≡ Ok after → step ≡ Ok after
not_passed setup actor mesh None step after e = e
not_passed setup actor mesh (Some passed) step after e = absurd (limit_stops passed.limit (after_acts setup actor passed.acts mesh) after e)

none_some : (node : NodeLog) (o : Option NodeLog) → o ≡ None → o ≡ Some node → ⊥
none_some node None a b = cc
none_some node (Some x) a b = cc

-- where there is no node, none has a tick
none_extra : (mesh : Mesh) (at more place : ℕ) (node : NodeLog) → slice_get mesh.nodes at ≡ None → slice_get mesh.nodes place ≡ Some node → at_place at more place ≡ 0
none_extra mesh at more place node none found =
    ap (λ b. cond b more 0) (ne_eqb at place (λ e. none_some node (slice_get mesh.nodes place) (subst (λ i. slice_get mesh.nodes i ≡ None) e none) found))

node_effect : (setup : Setup) (mesh : Mesh) (node now root : ℕ) (given : Given) (o : Option NodeLog) (after : Mesh) → slice_get mesh.nodes node ≡ o → GivesItsBytes mesh.frames given → given_node setup node now root given o mesh ≡ Ok after → Effect setup (at_place node (ticks_by given)) now mesh after
node_effect setup mesh node now root given None after found g e = no_effect setup (at_place node (ticks_by given)) now mesh after (λ place n f. none_extra mesh node (ticks_by given) place n found f) e
node_effect setup mesh node now root given (Some n) after found g e =
    let actor : Actor = record { place = node; mac = n.mac; now = now; root = root } in
    let entry : LogEntry = entry_of setup n now given in
    entry_effect setup mesh actor entry after g (not_passed setup actor mesh (setup.node_limit n.mac n.log now given) (after_entry setup actor entry mesh) after e)

pub given_effect : (setup : Setup) (mesh : Mesh) (node now root : ℕ) (given : Given) (after : Mesh) → GivesItsBytes mesh.frames given → given_to setup node now root given mesh ≡ Ok after → Effect setup (at_place node (ticks_by given)) now mesh after
given_effect setup mesh node now root given after g e = node_effect setup mesh node now root given (slice_get mesh.nodes node) after refl g e

-- what has no tick
abbrev pub no_ticks : ℕ → ℕ
no_ticks place = 0

same_extra : (setup : Setup) (a b : ℕ → ℕ) (now : ℕ) (mesh after : Mesh) → ((place : ℕ) → a place ≡ b place) → Effect setup a now mesh after → Effect setup b now mesh after
same_extra setup a b now mesh after same e = record {
  nodes = λ place node found. let w = e.nodes place node found in record { node = w.node; found = w.found; grew = subst (λ k. Grew after.frames k w.node node) (same place) w.grew };
  count = e.count;
  names = e.names;
  last = e.last;
  watch = e.watch;
  adds = e.adds;
}

at_none : (at place : ℕ) → at_place at 0 place ≡ 0
at_none at place = elim (nat_eq at place) as (λ b. ◌≡◌ {A = ℕ} (cond b 0 0) 0) [ true ↦ refl | false ↦ refl ]

pub tickless : (setup : Setup) (mesh : Mesh) (node now root : ℕ) (given : Given) (after : Mesh) → ticks_by given ≡ 0 → GivesItsBytes mesh.frames given → given_to setup node now root given mesh ≡ Ok after → Effect setup no_ticks now mesh after
tickless setup mesh node now root given after z g e =
    same_extra setup (at_place node (ticks_by given)) no_ticks now mesh after (λ place. ap (λ k. at_place node k place) z ∙ at_none node place) (given_effect setup mesh node now root given after g e)

-- two effects without ticks
pub both_effects : (setup : Setup) (now : ℕ) (a b c : Mesh) → Effect setup no_ticks now a b → Effect setup no_ticks now b c → Effect setup no_ticks now a c
both_effects setup now a b c p q = record {
  nodes = λ place node found.
      let w = q.nodes place node found in
      let v = p.nodes place w.node w.found in
      record {
        node = v.node;
        found = v.found;
        grew = record {
          made = w.grew.made ∙ v.grew.made;
          ticks = w.grew.ticks ∙ ap (λ k. 0 + k) v.grew.ticks ∙ zero_twice (ticks_in v.node.log);
          entries = λ e h. either w.node e v.node (v.grew.entries e) (w.grew.entries e h);
        };
      };
  count = q.count ∙ p.count;
  names = q.names ∙ p.names;
  last = q.last ∙ p.last;
  watch = q.watch ∙ p.watch;
  adds = adds_both setup now a b c p.adds q.adds;
}
  where
    zero_twice : (n : ℕ) → 0 + (0 + n) ≡ 0 + n
    zero_twice n = omega arith

    lift : (e : LogEntry) → GivesItsBytes b.frames e.given → GivesItsBytes c.frames e.given
    lift e g = subst (λ fs. GivesItsBytes fs e.given) (sym q.adds.frames) (gave_later b.frames q.adds.more e.given g)

    first : (e : LogEntry) (n : NodeLog) → Has n.log e ⊎ GivesItsBytes b.frames e.given → Has n.log e ⊎ GivesItsBytes c.frames e.given
    first e n (inl h) = inl h
    first e n (inr g) = inr (lift e g)

    either : (m : NodeLog) (e : LogEntry) (n : NodeLog) → (Has m.log e → Has n.log e ⊎ GivesItsBytes b.frames e.given) → Has m.log e ⊎ GivesItsBytes c.frames e.given → Has n.log e ⊎ GivesItsBytes c.frames e.given
    either m e n before (inl h) = first e n (before h)
    either m e n before (inr g) = inr g

-- several nodes are given the same, which is no tick and no link frame
pub all_effect : (setup : Setup) (places : List ℕ) (now : ℕ) (given : Given) (mesh after : Mesh) → ticks_by given ≡ 0 → ((frames : List SentFrame) → GivesItsBytes frames given)
    → all_given setup places now given mesh ≡ Ok after → Effect setup no_ticks now mesh after
all_effect setup [] now given mesh after z g e = no_effect setup no_ticks now mesh after (λ p n f. refl) e
all_effect setup (place ∷ rest) now given mesh after z g e =
    let p = on_ok_ok (all_given setup rest now given) (given_to setup place now 0 given mesh) after e in
    both_effects setup now mesh p.0 after (tickless setup mesh place now 0 given p.0 z (g mesh.frames) p.1) (all_effect setup rest now given p.0 after z g p.2)

-- one more LAN frame
pub put_joins : (setup : Setup) (put : LanPut) (mesh after : Mesh) → put.lan < length mesh.lans → with_put setup put mesh ≡ Ok after → Effect setup no_ticks put.moment mesh after
put_joins setup put mesh after low e =
    let sends = sends_put setup put mesh after low e in
    record {
      nodes = λ place node found. record {
        node = node;
        found = subst (λ ns. slice_get ns place ≡ Some node) sends.nodes found;
        grew = record { made = refl; ticks = no_extra (ticks_in node.log) 0 refl; entries = λ e h. inl h };
      };
      count = ap length sends.nodes;
      names = ap₂ named (ap node_names sends.nodes) sends.adds.lans;
      last = sends.last;
      watch = sends.watch;
      adds = sends.adds;
    }

-- what the gateways of a LAN that joined leave
pub lan_joins : (setup : Setup) (name : List ℕ) (gateways : List ℕ) (now : ℕ) (mesh after : Mesh) → joins_lan setup name gateways now mesh ≡ Ok after
    → Effect setup no_ticks now (with_lan (record { name = name; gateways = gateways }) mesh) after
lan_joins setup name gateways now mesh after e =
    all_effect setup gateways now (attachment mesh gateways) (with_lan (record { name = name; gateways = gateways }) mesh) after refl (λ fs. tt) e

-- ---- the three kinds of happenings
link_effect : (setup : Setup) (mesh : Mesh) (place now : ℕ) (frame : SentFrame) (o : Option NetLink) (after : Mesh) → slice_get mesh.frames place ≡ Some frame → frame_over setup place now frame o mesh ≡ Ok after → Effect setup no_ticks now mesh after
link_effect setup mesh place now frame None after found e = no_effect setup no_ticks now mesh after (λ p n f. refl) e
link_effect setup mesh place now frame (Some link) after found e =
    let place_is : suc place - 1 ≡ place = omega arith in
    tickless setup mesh link.to now frame.root (LinkFrame (suc place) (address_at link.from mesh.nodes) (throughput_between link.to link.from mesh.links) frame.bytes) after refl
    (frame, subst (λ i. slice_get mesh.frames i ≡ Some frame) (sym place_is) found, refl) e

frame_effect : (setup : Setup) (mesh : Mesh) (place now : ℕ) (o : Option SentFrame) (after : Mesh) → slice_get mesh.frames place ≡ o → frame_given setup place now o mesh ≡ Ok after → Effect setup no_ticks now mesh after
frame_effect setup mesh place now None after found e = no_effect setup no_ticks now mesh after (λ p n f. refl) e
frame_effect setup mesh place now (Some frame) after found e = link_effect setup mesh place now frame (slice_get mesh.links frame.link) after found e

pub delivered_effect : (setup : Setup) (mesh : Mesh) (place now : ℕ) (after : Mesh) → delivered setup place now mesh ≡ Ok after → Effect setup no_ticks now mesh after
delivered_effect setup mesh place now after e = frame_effect setup mesh place now (slice_get mesh.frames place) after refl e

-- further events are all that joins
told_effect : (setup : Setup) (now : ℕ) (more : List Event) (mesh : Mesh) → Effect setup no_ticks now mesh (with_events more mesh)
told_effect setup now more mesh = record {
  nodes = λ place node found. record { node = node; found = found; grew = record { made = refl; ticks = no_extra (ticks_in node.log) 0 refl; entries = λ e h. inl h } };
  count = refl;
  names = refl;
  last = refl;
  watch = refl;
  adds = adds_events setup now mesh (mesh.events ++ more) more refl;
}

lan_effect : (setup : Setup) (mesh : Mesh) (now : ℕ) (put : LanPut) (frame : Option ClientFrame) (o : Option NetLan) (after : Mesh) → put_over setup now put frame o mesh ≡ Ok after
    → Effect setup no_ticks now mesh after
lan_effect setup mesh now put frame None after e = no_effect setup no_ticks now mesh after (λ p n f. refl) e
lan_effect setup mesh now put frame (Some lan) after e =
    let told : Mesh = with_events (reach_events now put.lan put.by frame) mesh in
    both_effects setup now mesh told after (told_effect setup now (reach_events now put.lan put.by frame) mesh)
    (all_effect setup (filter (gets frame put.by) lan.gateways) now (LanFrame put.bytes) told after refl (λ fs. tt) e)

put_effect : (setup : Setup) (mesh : Mesh) (now : ℕ) (o : Option LanPut) (after : Mesh) → put_given setup now o mesh ≡ Ok after → Effect setup no_ticks now mesh after
put_effect setup mesh now None after e = no_effect setup no_ticks now mesh after (λ p n f. refl) e
put_effect setup mesh now (Some put) after e = lan_effect setup mesh now put (client_frame_in (lan_message_of put.bytes)) (slice_get mesh.lans put.lan) after e

tick_effect : (setup : Setup) (mesh : Mesh) (place now : ℕ) (o : Option NodeLog) (after : Mesh) → slice_get mesh.nodes place ≡ o → tick_given setup place now o mesh ≡ Ok after → Effect setup (at_place place 1) now mesh after
tick_effect setup mesh place now None after found e = no_effect setup (at_place place 1) now mesh after (λ p n f. none_extra mesh place 1 p n found f) e
tick_effect setup mesh place now (Some node) after found e = given_effect setup mesh place now (suc (ticks_in node.log)) (Tick (suc (ticks_in node.log))) after tt e

-- how many ticks a happening is to the node at a place
abbrev pub ticks_of : Class → ℕ → ℕ → ℕ
ticks_of LinkDelivery at place = 0
ticks_of LanDelivery at place = 0
ticks_of NodeTick at place = at_place at 1 place

pub effect_is : (setup : Setup) (mesh : Mesh) (class : Class) (place now : ℕ) (after : Mesh) → effect setup class place now mesh ≡ Ok after → Effect setup (ticks_of class place) now mesh after
effect_is setup mesh LinkDelivery place now after e = delivered_effect setup mesh place now after e
effect_is setup mesh LanDelivery place now after e = put_effect setup mesh now (slice_get mesh.puts place) after e
effect_is setup mesh NodeTick place now after e = tick_effect setup mesh place now (slice_get mesh.nodes place) after refl e

-- what carrying a happening out leaves
pub record HasStepped (setup : Setup) (mesh : Mesh) (h : Happening) (after : Mesh) : Type 0 where
  pub nodes : (place : ℕ) (node : NodeLog) → slice_get after.nodes place ≡ Some node → Was mesh.nodes after.frames (ticks_of h.class h.place place) place node
  pub count : length after.nodes ≡ length mesh.nodes
  pub names : names_of after ≡ names_of mesh
  pub adds : Adds setup h.moment mesh after
  pub last : after.last ≡ h

pub step_is : (setup : Setup) (mesh : Mesh) (h : Happening) (after : Mesh) → after_happening setup h mesh ≡ Ok after → HasStepped setup mesh h after
step_is setup mesh h after e =
    let p = on_ok_ok (with_last setup h) (effect setup h.class h.place h.moment mesh) after e in
    let x = effect_is setup mesh h.class h.place h.moment p.0 p.1 in
    subst (HasStepped setup mesh h) (ok_one (record (with_lines (lines_told setup h p.0) p.0) { last = h }) after p.2) (record {
      nodes = x.nodes;
      count = x.count;
      names = x.names;
      adds = record { links = x.adds.links; lans = x.adds.lans; more = x.adds.more; frames = x.adds.frames; sent = x.adds.sent; on_links = x.adds.on_links; more_puts = x.adds.more_puts; puts = x.adds.puts; put = x.adds.put; on_lans = x.adds.on_lans; more_events = x.adds.more_events ++ map route_event (lines_told setup h p.0); events = ap (λ es. es ++ map route_event (lines_told setup h p.0)) x.adds.events ∙ append_assoc mesh.events x.adds.more_events (map route_event (lines_told setup h p.0)); few = x.adds.few; few_puts = x.adds.few_puts };
      last = refl;
    })
