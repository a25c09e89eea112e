-- What the acts of a node leave: frames and events are added, and all else stays.
use Rattle.std.proofs.Common.{◌≡◌, ℕ, suc, ◌+◌, ◌<◌, ◌≤◌, ◌⊎◌, nat_eq, ◌&&◌, inl, inr, Bool, true, false, cond, nat_lt, if◌then◌else◌, List, [], ◌∷◌, ◌++◌, length, Option, Some, None, Ok, Err, refl, sym, ap, ◌∙◌, subst, arith, append_assoc, append-nil}
use Rattle.std.specs.List.{list_any}
use Rattle.std.proofs.lemmas.Bool.{ltb-false}
use Rattle.mesh_base.specs.declared.address.Mac.{Mac}
use Rattle.mesh_base.specs.declared.event.Event.{Event}
use Rattle.mesh_base.specs.declared.event.Reason.{Reason}
use Rattle.mesh_model.specs.declared.act.Act.{Act}
use Rattle.mesh_model.specs.declared.act.Act.TheVariants.{Link, Lan, Print}
use Rattle.mesh_model.specs.declared.ending.LimitName.{LimitName}
use Rattle.mesh_model.specs.declared.ending.LimitName.TheVariants.{Frames, FrameBytes}
use Rattle.mesh_model.specs.Net.Mesh.{NodeLog, NetLan, NetLink, SentFrame, LanPut, Mesh, Setup}
use Rattle.mesh_model.specs.Net.Sending.{Attempt, on_ok, with_frames, frames_over, frames_of, goes_to, ways, total_bytes, put_bytes, sent_events, put_event, Actor, lan_from, lan_of, put_on, with_put, after_act, after_acts}
use Rattle.mesh_model.specs.Net.Next.{Has}
use Rattle.mesh_laws.specs.Soundness.{places, FitsPlaces}
use Rattle.mesh_laws.proofs.Schedule.Members.{has_either, one_some}

abbrev pub as_ok : Mesh → Attempt
as_ok mesh = Ok mesh

pub ok_one : (a b : Mesh) → as_ok a ≡ as_ok b → a ≡ b
ok_one a b e = cc

pub on_ok_ok : (f : Mesh → Attempt) (r : Attempt) (m : Mesh) → on_ok f r ≡ Ok m → (n : Mesh) × (r ≡ Ok n) × (f n ≡ Ok m)
on_ok_ok f (Ok n) m e = (n, refl, e)
on_ok_ok f (Err l) m e = cc

-- a test that ends a step didn't, where there is a mesh after it
passed : (test : Bool) (limit : LimitName) (r : Attempt) (m : Mesh) → cond test (Err limit) r ≡ Ok m → (test ≡ false) × (r ≡ Ok m)
passed true limit r m e = cc
passed false limit r m e = (refl, e)

-- what joins the frames, on links and on LANs, and the events
pub record Adds (setup : Setup) (now : ℕ) (mesh after : Mesh) : Type 0 where
  pub links : after.links ≡ mesh.links
  pub lans : after.lans ≡ mesh.lans
  pub more : List SentFrame
  pub frames : after.frames ≡ mesh.frames ++ more
  pub sent : (frame : SentFrame) → Has more frame → frame.moment ≡ now
  pub on_links : (frame : SentFrame) → Has more frame → frame.link < length mesh.links
  pub more_puts : List LanPut
  pub puts : after.puts ≡ mesh.puts ++ more_puts
  pub put : (put : LanPut) → Has more_puts put → put.moment ≡ now
  pub on_lans : (put : LanPut) → Has more_puts put → put.lan < length mesh.lans
  pub more_events : List Event
  pub events : after.events ≡ mesh.events ++ more_events
  pub few : FitsPlaces setup → length mesh.frames ≤ places → length after.frames ≤ places
  pub few_puts : FitsPlaces setup → length mesh.puts ≤ places → length after.puts ≤ places

-- events are all that joins
pub adds_events : (setup : Setup) (now : ℕ) (mesh : Mesh) (events more : List Event) → events ≡ mesh.events ++ more → Adds setup now mesh (record mesh { events = events })
adds_events setup now mesh events more e = record {
  links = refl;
  lans = refl;
  more = [];
  frames = sym (append-nil mesh.frames);
  sent = λ f h. absurd h;
  on_links = λ f h. absurd h;
  more_puts = [];
  puts = sym (append-nil mesh.puts);
  put = λ p h. absurd h;
  on_lans = λ p h. absurd h;
  more_events = more;
  events = e;
  few = λ fits few. few;
  few_puts = λ fits few. few;
}

pub adds_nothing : (setup : Setup) (now : ℕ) (mesh : Mesh) → Adds setup now mesh mesh
adds_nothing setup now mesh = adds_events setup now mesh mesh.events [] (sym (append-nil mesh.events))

all_both : {X : Type 0} (P : X → Type 0) (a b : List X) → ((f : X) → Has a f → P f) → ((f : X) → Has b f → P f) → (f : X) → Has (a ++ b) f → P f
all_both {X = X} P a b p q f h = either (has_either a b f h)
  where
    either : Has a f ⊎ Has b f → P f
    either (inl x) = p f x
    either (inr x) = q f x

pub adds_both : (setup : Setup) (now : ℕ) (a b c : Mesh) → Adds setup now a b → Adds setup now b c → Adds setup now a c
adds_both setup now a b c p q = record {
  links = q.links ∙ p.links;
  lans = q.lans ∙ p.lans;
  more = p.more ++ q.more;
  frames = q.frames ∙ ap (λ fs. fs ++ q.more) p.frames ∙ append_assoc a.frames p.more q.more;
  sent = all_both (λ (f : SentFrame). f.moment ≡ now) p.more q.more p.sent q.sent;
  on_links = all_both (λ (f : SentFrame). f.link < length a.links) p.more q.more p.on_links (λ f h. subst (λ ls. f.link < length ls) p.links (q.on_links f h));
  more_puts = p.more_puts ++ q.more_puts;
  puts = q.puts ∙ ap (λ ps. ps ++ q.more_puts) p.puts ∙ append_assoc a.puts p.more_puts q.more_puts;
  put = all_both (λ (x : LanPut). x.moment ≡ now) p.more_puts q.more_puts p.put q.put;
  on_lans = all_both (λ (x : LanPut). x.lan < length a.lans) p.more_puts q.more_puts p.on_lans (λ x h. subst (λ ls. x.lan < length ls) p.lans (q.on_lans x h));
  more_events = p.more_events ++ q.more_events;
  events = q.events ∙ ap (λ es. es ++ q.more_events) p.events ∙ append_assoc a.events p.more_events q.more_events;
  few = λ fits few. q.few fits (p.few fits few);
  few_puts = λ fits few. q.few_puts fits (p.few_puts fits few);
}

-- what sending leaves
pub record Sends (setup : Setup) (now : ℕ) (mesh after : Mesh) : Type 0 where
  pub nodes : after.nodes ≡ mesh.nodes
  pub last : after.last ≡ mesh.last
  pub watch : after.watch ≡ mesh.watch
  pub adds : Adds setup now mesh after

-- a mesh with these frames, on links and on LANs, and these events
abbrev with_sent : Mesh → List SentFrame → List LanPut → List Event → Mesh
with_sent mesh frames puts events = record mesh { frames = frames; puts = puts; events = events }

-- frames and events are all that sending leaves
sends_by : (setup : Setup) (now : ℕ) (mesh after : Mesh) (frames : List SentFrame) (puts : List LanPut) (events : List Event) → Adds setup now mesh (with_sent mesh frames puts events) → as_ok (with_sent mesh frames puts events) ≡ as_ok after → Sends setup now mesh after
sends_by setup now mesh after frames puts events adds e = subst (Sends setup now mesh) (ok_one (with_sent mesh frames puts events) after e) (record { nodes = refl; last = refl; watch = refl; adds = adds })

sent_now : (links : List ℕ) (before : List SentFrame) (now root : ℕ) (bytes : List ℕ) (f : SentFrame) → Has (frames_over links before now root bytes) f → f.moment ≡ now
sent_now [] before now root bytes f h = absurd h
sent_now (link ∷ links) before now root bytes f (inl e) = ap (λ (x : SentFrame). x.moment) e
sent_now (link ∷ links) before now root bytes f (inr h) = sent_now links before now root bytes f h

sent_over : (links : List ℕ) (before : List SentFrame) (now root : ℕ) (bytes : List ℕ) (f : SentFrame) → Has (frames_over links before now root bytes) f → Has links f.link
sent_over [] before now root bytes f h = absurd h
sent_over (link ∷ links) before now root bytes f (inl e) = inl (ap (λ (x : SentFrame). x.link) e)
sent_over (link ∷ links) before now root bytes f (inr h) = inr (sent_over links before now root bytes f h)

-- a way that is there or not
one_way : (place place_of_way most : ℕ) (test : Bool) → place < most → Has (if test then place ∷ [] else []) place_of_way → place_of_way < most
one_way place way most true l (inl e) = omega (arith, l, e)
one_way place way most true l (inr h) = absurd h
one_way place way most false l h = absurd h

ways_low : (nodes : List NodeLog) (sender : ℕ) (to : Option Mac) (place : ℕ) (links : List NetLink) (way : ℕ) → Has (ways nodes sender to place links) way → way < place + length links
ways_low nodes sender to place [] way h = absurd h
ways_low nodes sender to place (link ∷ rest) way h =
    let here = if nat_eq link.from sender && goes_to to nodes link.to then place ∷ [] else [] in
    either (has_either here (ways nodes sender to (suc place) rest) way h) (ways_low nodes sender to (suc place) rest way)
  where
    either : Has (if nat_eq link.from sender && goes_to to nodes link.to then place ∷ [] else []) way ⊎ Has (ways nodes sender to (suc place) rest) way
        → (Has (ways nodes sender to (suc place) rest) way → way < suc place + length rest) → way < place + suc (length rest)
    either (inl q) more = one_way place way (place + suc (length rest)) (nat_eq link.from sender && goes_to to nodes link.to) (omega arith) q
    either (inr q) more = let l = more q in omega (arith, l)

sends_frames : (setup : Setup) (now : ℕ) (me : Mac) (reason : Option Reason) (new : List SentFrame) (mesh after : Mesh) → ((f : SentFrame) → Has new f → f.moment ≡ now) → ((f : SentFrame) → Has new f → f.link < length mesh.links) → with_frames setup me reason new mesh ≡ Ok after → Sends setup now mesh after
sends_frames setup now me reason new mesh after at over e =
    let made : Mesh = record mesh { frames = mesh.frames ++ new; events = mesh.events ++ sent_events me reason mesh (length mesh.frames) new } in
    let one = passed (nat_lt setup.frames_limit (length (mesh.frames ++ new) + length mesh.puts)) Frames (if nat_lt setup.bytes_limit (total_bytes (mesh.frames ++ new) + put_bytes mesh.puts) then Err FrameBytes else Ok made) after e in
    let two = passed (nat_lt setup.bytes_limit (total_bytes (mesh.frames ++ new) + put_bytes mesh.puts)) FrameBytes (Ok made) after one.1 in
    let most = ltb-false setup.frames_limit (length (mesh.frames ++ new) + length mesh.puts) one.0 in
    sends_by setup now mesh after made.frames made.puts made.events (record {
      links = refl;
      lans = refl;
      more = new;
      frames = refl;
      sent = at;
      on_links = over;
      more_puts = [];
      puts = sym (append-nil mesh.puts);
      put = λ p h. absurd h;
      on_lans = λ p h. absurd h;
      more_events = sent_events me reason mesh (length mesh.frames) new;
      events = refl;
      few = λ fits few. omega (arith, most, fits);
      few_puts = λ fits few. few;
    }) two.1

-- one more LAN frame leaves the nodes
pub sends_put : (setup : Setup) (put : LanPut) (mesh after : Mesh) → put.lan < length mesh.lans → with_put setup put mesh ≡ Ok after → Sends setup put.moment mesh after
sends_put setup put mesh after low e =
    let made : Mesh = record mesh { puts = mesh.puts ++ put ∷ []; events = mesh.events ++ put_event mesh put ∷ [] } in
    let one = passed (nat_lt setup.frames_limit (length mesh.frames + length (mesh.puts ++ put ∷ []))) Frames
    (if nat_lt setup.bytes_limit (total_bytes mesh.frames + put_bytes (mesh.puts ++ put ∷ [])) then Err FrameBytes else Ok made) after e in
    let two = passed (nat_lt setup.bytes_limit (total_bytes mesh.frames + put_bytes (mesh.puts ++ put ∷ []))) FrameBytes (Ok made) after one.1 in
    let most = ltb-false setup.frames_limit (length mesh.frames + length (mesh.puts ++ put ∷ [])) one.0 in
    sends_by setup put.moment mesh after made.frames made.puts made.events (record {
      links = refl;
      lans = refl;
      more = [];
      frames = sym (append-nil mesh.frames);
      sent = λ f h. absurd h;
      on_links = λ f h. absurd h;
      more_puts = put ∷ [];
      puts = refl;
      put = λ p h. put_one p h;
      on_lans = λ p h. low_one p h;
      more_events = put_event mesh put ∷ [];
      events = refl;
      few = λ fits few. few;
      few_puts = λ fits few. omega (arith, most, fits);
    }) two.1
  where
    put_one : (p : LanPut) → Has (put ∷ []) p → p.moment ≡ put.moment
    put_one p (inl e) = ap (λ (x : LanPut). x.moment) e
    put_one p (inr h) = absurd h

    low_one : (p : LanPut) → Has (put ∷ []) p → p.lan < length mesh.lans
    low_one p (inl e) = subst (λ (x : LanPut). x.lan < length mesh.lans) (sym e) low
    low_one p (inr h) = absurd h

sends_nothing : (setup : Setup) (now : ℕ) (mesh after : Mesh) → as_ok mesh ≡ as_ok after → Sends setup now mesh after
sends_nothing setup now mesh after e = sends_by setup now mesh after mesh.frames mesh.puts mesh.events (adds_nothing setup now mesh) e

lan_here : (gateway place lan : ℕ) (first : NetLan) (rest : List NetLan) (b : Bool) → (lan_from gateway (suc place) rest ≡ Some lan → lan < suc place + length rest)
    → (if b then Some place else lan_from gateway (suc place) rest) ≡ Some lan → lan < place + suc (length rest)
lan_here gateway place lan first rest true more e = let same : place ≡ lan = one_some place lan e in omega (arith, same)
lan_here gateway place lan first rest false more e = let l = more e in omega (arith, l)

-- the LAN of a gateway is one of the LANs
pub lan_low : (gateway place : ℕ) (lans : List NetLan) (lan : ℕ) → lan_from gateway place lans ≡ Some lan → lan < place + length lans
lan_low gateway place [] lan e = cc
lan_low gateway place (first ∷ rest) lan e = lan_here gateway place lan first rest (list_any (nat_eq gateway) first.gateways) (lan_low gateway (suc place) rest lan) e

put_sends : (setup : Setup) (actor : Actor) (bytes : List ℕ) (o : Option ℕ) (mesh after : Mesh) → lan_of actor.place mesh.lans ≡ o → put_on setup actor bytes o mesh ≡ Ok after → Sends setup actor.now mesh after
put_sends setup actor bytes None mesh after found e = sends_nothing setup actor.now mesh after e
put_sends setup actor bytes (Some lan) mesh after found e =
    let low = lan_low actor.place 0 mesh.lans lan found in
    sends_put setup (record { lan = lan; moment = actor.now; bytes = bytes; by = Some actor.place }) mesh after (omega (arith, low)) e

act_sends : (setup : Setup) (actor : Actor) (act : Act) (mesh after : Mesh) → after_act setup actor act mesh ≡ Ok after → Sends setup actor.now mesh after
act_sends setup actor (Link to reason bytes) mesh after e = sends_frames setup actor.now actor.mac reason (frames_of actor to bytes mesh) mesh after
    (sent_now (ways mesh.nodes actor.place to 0 mesh.links) mesh.frames actor.now actor.root bytes)
    (λ f h. let l = ways_low mesh.nodes actor.place to 0 mesh.links f.link (sent_over (ways mesh.nodes actor.place to 0 mesh.links) mesh.frames actor.now actor.root bytes f h) in omega (arith, l)) e
act_sends setup actor (Lan bytes) mesh after e = put_sends setup actor bytes (lan_of actor.place mesh.lans) mesh after refl e
act_sends setup actor (Print event) mesh after e =
    let told : List Event = mesh.events ++ event ∷ [] in
    sends_by setup actor.now mesh after mesh.frames mesh.puts told (adds_events setup actor.now mesh told (event ∷ []) refl) e

pub acts_send : (setup : Setup) (actor : Actor) (acts : List Act) (mesh after : Mesh) → after_acts setup actor acts mesh ≡ Ok after → Sends setup actor.now mesh after
acts_send setup actor [] mesh after e = sends_nothing setup actor.now mesh after e
acts_send setup actor (act ∷ acts) mesh after e =
    let p = on_ok_ok (after_acts setup actor acts) (after_act setup actor act mesh) after e in
    let a = act_sends setup actor act mesh p.0 p.1 in
    let b = acts_send setup actor acts p.0 after p.2 in
    record { nodes = b.nodes ∙ a.nodes; last = b.last ∙ a.last; watch = b.watch ∙ a.watch; adds = adds_both setup actor.now mesh p.0 after a.adds b.adds }
