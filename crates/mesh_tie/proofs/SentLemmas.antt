-- What a node that is given something leaves in the mesh: its entry, and frames from its acts.
use Rattle.std.proofs.Common.{◌+◌, None, ◌≡◌, ◌⊎◌, inl, inr, ℕ, suc, Bool, true, false, cond, nat_lt, List, [], ◌∷◌, ◌++◌, length, slice_get, Option, Some, Ok, Err, refl, sym, ap, subst, ◌∙◌, append_assoc, append-nil}
use Rattle.mesh_base.specs.declared.address.Mac.{Mac}
use Rattle.mesh_base.specs.declared.event.Event.{Event}
use Rattle.mesh_base.specs.declared.event.Event.TheVariants.{FrameSent, LanSent}
use Rattle.mesh_base.specs.declared.event.Reason.{Reason}
use Rattle.mesh_model.specs.declared.act.Act.{Act}
use Rattle.mesh_model.specs.declared.act.Act.TheVariants.{Link, Lan, Print}
use Rattle.mesh_model.specs.declared.ending.LimitName.{LimitName}
use Rattle.mesh_model.specs.declared.ending.LimitName.TheVariants.{Frames, FrameBytes}
use Rattle.mesh_model.specs.Clients.Log.{Given}
use Rattle.mesh_model.specs.Net.Inputs.{entry_of, given_node, given_to, noted, noted_at, after_entry}
use Rattle.mesh_model.specs.Net.Mesh.{NodeLog, SentFrame, LanPut, Mesh, Setup, address_at}
use Rattle.mesh_model.specs.Net.Next.{Has}
use Rattle.mesh_model.specs.Net.Sending.{Actor, Attempt, after_act, after_acts, end_of, frames_of, frames_over, lan_of, put_bytes, put_event, put_on, sent_events, total_bytes, ways}
use Rattle.mesh_laws.proofs.Schedule.Members.{has_either, has_left, has_right}
use Rattle.mesh_laws.proofs.Schedule.Sends.{ok_one, on_ok_ok}
use Rattle.mesh_laws.proofs.Schedule.Steps.{not_passed}

-- a frame that an act made
pub record IsFromActs (acts : List Act) (root : ℕ) (frame : SentFrame) : Type 0 where
  pub to : Option Mac
  pub reason : Option Reason
  pub act : Has acts (Link to reason frame.bytes)
  pub root_is : frame.root ≡ root

-- the event of a frame that an act made at a moment
pub record IsSending (acts : List Act) (mac : Mac) (now : ℕ) (event : Event) : Type 0 where
  pub number : ℕ
  pub next : Mac
  pub to : Option Mac
  pub reason : Option Reason
  pub bytes : List ℕ
  pub is : event ≡ FrameSent number now mac next reason bytes
  pub act : Has acts (Link to reason bytes)

-- the event of a LAN frame
pub record IsLanSending (event : Event) : Type 0 where
  pub number : ℕ
  pub moment : ℕ
  pub lan : ℕ
  pub bytes : List ℕ
  pub is : event ≡ LanSent number moment lan bytes

-- a LAN frame that an act of a gateway put
pub record IsPut (acts : List Act) (put : LanPut) : Type 0 where
  pub act : Has acts (Lan put.bytes)
  pub gateway : ℕ
  pub by_gateway : put.by ≡ Some gateway

-- where an event of acts comes from
abbrev pub IsOfActs : List Act → Mac → ℕ → Event → Type 0
IsOfActs acts mac now event = Has acts (Print event) ⊎ (IsSending acts mac now event ⊎ IsLanSending event)

-- what acts leave
pub record HasSent (acts : List Act) (mac : Mac) (now root : ℕ) (mesh after : Mesh) : Type 0 where
  pub nodes : after.nodes ≡ mesh.nodes
  pub more_puts : List LanPut
  pub puts : after.puts ≡ mesh.puts ++ more_puts
  pub put : (put : LanPut) → Has more_puts put → IsPut acts put
  pub more : List SentFrame
  pub frames : after.frames ≡ mesh.frames ++ more
  pub made : (frame : SentFrame) → Has more frame → IsFromActs acts root frame
  pub kept : (event : Event) → Has mesh.events event → Has after.events event
  pub printed : (event : Event) → Has acts (Print event) → Has after.events event
  pub more_events : List Event
  pub events : after.events ≡ mesh.events ++ more_events
  pub came : (event : Event) → Has more_events event → IsOfActs acts mac now event

over_links : (links : List ℕ) (before : List SentFrame) (now root : ℕ) (bytes : List ℕ) (frame : SentFrame) → Has (frames_over links before now root bytes) frame → (frame.bytes ≡ bytes) × (frame.root ≡ root) × (frame.moment ≡ now)
over_links [] before now root bytes frame has = absurd has
over_links (link ∷ links) before now root bytes frame (inl is) = (ap (λ (f : SentFrame). f.bytes) is, ap (λ (f : SentFrame). f.root) is, ap (λ (f : SentFrame). f.moment) is)
over_links (link ∷ links) before now root bytes frame (inr has) = over_links links before now root bytes frame has

pub chosen : (test : Bool) (limit : LimitName) (r : Attempt) (m : Mesh) → cond test (Err limit) r ≡ Ok m → r ≡ Ok m
chosen true limit r m e = cc
chosen false limit r m e = e

-- an event among those of frames
record IsSent (mac : Mac) (reason : Option Reason) (frames : List SentFrame) (event : Event) : Type 0 where
  number : ℕ
  next : Mac
  frame : SentFrame
  among : Has frames frame
  is : event ≡ FrameSent number frame.moment mac next reason frame.bytes

sending : (mac : Mac) (reason : Option Reason) (mesh : Mesh) (place : ℕ) (frames : List SentFrame) (event : Event) → Has (sent_events mac reason mesh place frames) event → IsSent mac reason frames event
sending mac reason mesh place [] event has = absurd has
sending mac reason mesh place (frame ∷ rest) event (inl is) = record { number = suc place; next = address_at (end_of frame.link mesh.links) mesh.nodes; frame = frame; among = inl refl; is = is }
sending mac reason mesh place (frame ∷ rest) event (inr has) =
    let s = sending mac reason mesh (suc place) rest event has in
    record { number = s.number; next = s.next; frame = s.frame; among = inr s.among; is = s.is }

-- events are all that acts leave
told_only : (acts : List Act) (mac : Mac) (now root : ℕ) (mesh after : Mesh) (more : List Event) → record mesh { events = mesh.events ++ more } ≡ after
    → ((event : Event) → Has acts (Print event) → Has more event) → ((event : Event) → Has more event → IsOfActs acts mac now event) → HasSent acts mac now root mesh after
told_only acts mac now root mesh after more same printed came = record {
  nodes = ap (λ (m : Mesh). m.nodes) (sym same);
  more_puts = [];
  puts = ap (λ (m : Mesh). m.puts) (sym same) ∙ sym (append-nil mesh.puts);
  put = λ put has. absurd has;
  more = [];
  frames = ap (λ (m : Mesh). m.frames) (sym same) ∙ sym (append-nil mesh.frames);
  made = λ frame has. absurd has;
  kept = λ event has. subst (λ (m : Mesh). Has m.events event) same (has_left mesh.events more event has);
  printed = λ event has. subst (λ (m : Mesh). Has m.events event) same (has_right mesh.events more event (printed event has));
  more_events = more;
  events = ap (λ (m : Mesh). m.events) (sym same);
  came = came;
}

-- acts that leave the mesh as it was
none_sent : (acts : List Act) (mac : Mac) (now root : ℕ) (mesh after : Mesh) → mesh ≡ after → ((event : Event) → Has acts (Print event) → ⊥) → HasSent acts mac now root mesh after
none_sent acts mac now root mesh after same quiet =
    told_only acts mac now root mesh after [] (ap (λ (es : List Event). record mesh { events = es }) (append-nil mesh.events) ∙ same) (λ event has. absurd (quiet event has)) (λ event has. absurd has)

no_print : (bytes : List ℕ) (event : Event) → Has (Lan bytes ∷ []) (Print event) → ⊥
no_print bytes event (inl is) = cc
no_print bytes event (inr none) = absurd none

-- a frame on the LAN of a gateway; a node that is none has no LAN
lan_sent : (setup : Setup) (actor : Actor) (bytes : List ℕ) (lan : Option ℕ) (mesh after : Mesh) → put_on setup actor bytes lan mesh ≡ Ok after → HasSent (Lan bytes ∷ []) actor.mac actor.now actor.root mesh after
lan_sent setup actor bytes None mesh after e = none_sent (Lan bytes ∷ []) actor.mac actor.now actor.root mesh after (ok_one mesh after e) (no_print bytes)
lan_sent setup actor bytes (Some lan) mesh after e =
    let put : LanPut = record { lan = lan; moment = actor.now; bytes = bytes; by = Some actor.place } in
    let made : Mesh = record mesh { puts = mesh.puts ++ put ∷ []; events = mesh.events ++ put_event mesh put ∷ [] } in
    let frames = nat_lt setup.frames_limit (length mesh.frames + length (mesh.puts ++ put ∷ [])) in
    let room = nat_lt setup.bytes_limit (total_bytes mesh.frames + put_bytes (mesh.puts ++ put ∷ [])) in
    let one = chosen frames Frames (cond room (Err FrameBytes) (Ok made)) after e in
    let two = chosen room FrameBytes (Ok made) after one in
    let same : made ≡ after = ok_one made after two in
    record {
      nodes = ap (λ (m : Mesh). m.nodes) (sym same);
      more_puts = put ∷ [];
      puts = ap (λ (m : Mesh). m.puts) (sym same);
      put = λ other has. is_put other has;
      more = [];
      frames = ap (λ (m : Mesh). m.frames) (sym same) ∙ sym (append-nil mesh.frames);
      made = λ frame has. absurd has;
      kept = λ event has. subst (λ (m : Mesh). Has m.events event) same (has_left mesh.events (put_event mesh put ∷ []) event has);
      printed = λ event has. absurd (no_print bytes event has);
      more_events = put_event mesh put ∷ [];
      events = ap (λ (m : Mesh). m.events) (sym same);
      came = λ event has. inr (inr (the_put event has));
    }
  where
    is_put : (other : LanPut) → Has (record { lan = lan; moment = actor.now; bytes = bytes; by = Some actor.place } ∷ []) other → IsPut (Lan bytes ∷ []) other
    is_put other (inl is) = record { act = inl (ap (λ (p : LanPut). Lan p.bytes) is); gateway = actor.place; by_gateway = ap (λ (p : LanPut). p.by) is }
    is_put other (inr none) = absurd none

    the_put : (event : Event) → Has (put_event mesh (record { lan = lan; moment = actor.now; bytes = bytes; by = Some actor.place }) ∷ []) event → IsLanSending event
    the_put event (inl is) = record { number = suc (length mesh.puts); moment = actor.now; lan = suc lan; bytes = bytes; is = is }
    the_put event (inr none) = absurd none

one_sent : (setup : Setup) (actor : Actor) (act : Act) (mesh after : Mesh) → after_act setup actor act mesh ≡ Ok after → HasSent (act ∷ []) actor.mac actor.now actor.root mesh after
one_sent setup actor (Link to reason bytes) mesh after e =
    let new = frames_of actor to bytes mesh in
    let made : Mesh = record mesh { frames = mesh.frames ++ new; events = mesh.events ++ sent_events actor.mac reason mesh (length mesh.frames) new } in
    let one = chosen (nat_lt setup.frames_limit (length (mesh.frames ++ new) + length mesh.puts)) Frames (cond (nat_lt setup.bytes_limit (total_bytes (mesh.frames ++ new) + put_bytes mesh.puts)) (Err FrameBytes) (Ok made)) after e in
    let two = chosen (nat_lt setup.bytes_limit (total_bytes (mesh.frames ++ new) + put_bytes mesh.puts)) FrameBytes (Ok made) after one in
    let same : made ≡ after = ok_one made after two in
    record {
      nodes = ap (λ (m : Mesh). m.nodes) (sym same);
      more_puts = [];
      puts = ap (λ (m : Mesh). m.puts) (sym same) ∙ sym (append-nil mesh.puts);
      put = λ put has. absurd has;
      more = new;
      frames = ap (λ (m : Mesh). m.frames) (sym same);
      made = λ frame has.
          let parts = over_links (ways mesh.nodes actor.place to 0 mesh.links) mesh.frames actor.now actor.root bytes frame has in
          record { to = to; reason = reason; act = inl (ap (λ b. Link to reason b) parts.0); root_is = parts.1 };
      kept = λ event has. subst (λ (m : Mesh). Has m.events event) same (has_left mesh.events (sent_events actor.mac reason mesh (length mesh.frames) new) event has);
      printed = λ event has. absurd (no_link_print has);
      more_events = sent_events actor.mac reason mesh (length mesh.frames) new;
      events = ap (λ (m : Mesh). m.events) (sym same);
      came = λ event has.
          let s = sending actor.mac reason mesh (length mesh.frames) new event has in
          let parts = over_links (ways mesh.nodes actor.place to 0 mesh.links) mesh.frames actor.now actor.root bytes s.frame s.among in
          inr (inl (record { number = s.number; next = s.next; to = to; reason = reason; bytes = s.frame.bytes; is = subst (λ t. event ≡ FrameSent s.number t actor.mac s.next reason s.frame.bytes) parts.2 s.is; act = inl (ap (λ b. Link to reason b) parts.0) }));
    }
  where
    no_link_print : {event : Event} → Has (Link to reason bytes ∷ []) (Print event) → ⊥
    no_link_print (inl is) = cc
    no_link_print (inr none) = absurd none
one_sent setup actor (Lan bytes) mesh after e = lan_sent setup actor bytes (lan_of actor.place mesh.lans) mesh after e
one_sent setup actor (Print event) mesh after e = told_only (Print event ∷ []) actor.mac actor.now actor.root mesh after (event ∷ []) (ok_one (record mesh { events = mesh.events ++ event ∷ [] }) after e) the_event (λ other has. inl (the_act other has))
  where
    the_event : (other : Event) → Has (Print event ∷ []) (Print other) → Has (event ∷ []) other
    the_event other (inl is) = inl (let same : other ≡ event = cc in same)
    the_event other (inr none) = absurd none

    the_act : (other : Event) → Has (event ∷ []) other → Has (Print event ∷ []) (Print other)
    the_act other (inl is) = inl (ap (λ e. Print e) is)
    the_act other (inr none) = absurd none

pub acts_sent : (setup : Setup) (actor : Actor) (acts : List Act) (mesh after : Mesh) → after_acts setup actor acts mesh ≡ Ok after → HasSent acts actor.mac actor.now actor.root mesh after
acts_sent setup actor [] mesh after e = none_sent [] actor.mac actor.now actor.root mesh after (ok_one mesh after e) (λ event has. absurd has)
acts_sent setup actor (act ∷ acts) mesh after e =
    let p = on_ok_ok (after_acts setup actor acts) (after_act setup actor act mesh) after e in
    let a = one_sent setup actor act mesh p.0 p.1 in
    let b = acts_sent setup actor acts p.0 after p.2 in
    record {
      nodes = b.nodes ∙ a.nodes;
      more_puts = a.more_puts ++ b.more_puts;
      puts = b.puts ∙ ap (λ ps. ps ++ b.more_puts) a.puts ∙ append_assoc mesh.puts a.more_puts b.more_puts;
      put = λ put has. either_put a.more_puts b.more_puts put (λ in_a. a.put put in_a) (λ in_b. b.put put in_b) (has_either a.more_puts b.more_puts put has);
      more = a.more ++ b.more;
      frames = b.frames ∙ ap (λ fs. fs ++ b.more) a.frames ∙ append_assoc mesh.frames a.more b.more;
      made = λ frame has. either a b frame (has_either a.more b.more frame has);
      kept = λ event has. b.kept event (a.kept event has);
      printed = λ event has. by_act a b event has;
      more_events = a.more_events ++ b.more_events;
      events = b.events ∙ ap (λ es. es ++ b.more_events) a.events ∙ append_assoc mesh.events a.more_events b.more_events;
      came = λ event has. from_either a b event (has_either a.more_events b.more_events event has);
    }
  where
    either_put : (xs ys : List LanPut) (put : LanPut) → (Has xs put → IsPut (act ∷ []) put) → (Has ys put → IsPut acts put) → Has xs put ⊎ Has ys put → IsPut (act ∷ acts) put
    either_put xs ys put one rest (inl has) = let p = one has in record { act = front p.act; gateway = p.gateway; by_gateway = p.by_gateway }
      where
        front : Has (act ∷ []) (Lan put.bytes) → Has (act ∷ acts) (Lan put.bytes)
        front (inl is) = inl is
        front (inr none) = absurd none
    either_put xs ys put one rest (inr has) = let p = rest has in record { act = inr p.act; gateway = p.gateway; by_gateway = p.by_gateway }

    first : (frame : SentFrame) → IsFromActs (act ∷ []) actor.root frame → IsFromActs (act ∷ acts) actor.root frame
    first frame f = record { to = f.to; reason = f.reason; act = front f.act; root_is = f.root_is }
      where
        front : Has (act ∷ []) (Link f.to f.reason frame.bytes) → Has (act ∷ acts) (Link f.to f.reason frame.bytes)
        front (inl is) = inl is
        front (inr none) = absurd none

    either : (a : HasSent (act ∷ []) actor.mac actor.now actor.root mesh (on_ok_ok (after_acts setup actor acts) (after_act setup actor act mesh) after e).0) (b : HasSent acts actor.mac actor.now actor.root (on_ok_ok (after_acts setup actor acts) (after_act setup actor act mesh) after e).0 after)
        (frame : SentFrame) → Has a.more frame ⊎ Has b.more frame → IsFromActs (act ∷ acts) actor.root frame
    either a b frame (inl has) = first frame (a.made frame has)
    either a b frame (inr has) = let f = b.made frame has in record { to = f.to; reason = f.reason; act = inr f.act; root_is = f.root_is }

    by_act : (a : HasSent (act ∷ []) actor.mac actor.now actor.root mesh (on_ok_ok (after_acts setup actor acts) (after_act setup actor act mesh) after e).0) (b : HasSent acts actor.mac actor.now actor.root (on_ok_ok (after_acts setup actor acts) (after_act setup actor act mesh) after e).0 after)
        (event : Event) → Has (act ∷ acts) (Print event) → Has after.events event
    by_act a b event (inl is) = b.kept event (a.printed event (inl is))
    by_act a b event (inr has) = b.printed event has

    first_one : (event : Event) → IsOfActs (act ∷ []) actor.mac actor.now event → IsOfActs (act ∷ acts) actor.mac actor.now event
    first_one event (inl (inl is)) = inl (inl is)
    first_one event (inl (inr none)) = absurd none
    first_one event (inr (inr put)) = inr (inr put)
    first_one event (inr (inl s)) = inr (inl (record { number = s.number; next = s.next; to = s.to; reason = s.reason; bytes = s.bytes; is = s.is; act = front s.act }))
      where
        front : Has (act ∷ []) (Link s.to s.reason s.bytes) → Has (act ∷ acts) (Link s.to s.reason s.bytes)
        front (inl is) = inl is
        front (inr none) = absurd none

    later_one : (event : Event) → IsOfActs acts actor.mac actor.now event → IsOfActs (act ∷ acts) actor.mac actor.now event
    later_one event (inl has) = inl (inr has)
    later_one event (inr (inr put)) = inr (inr put)
    later_one event (inr (inl s)) = inr (inl (record { number = s.number; next = s.next; to = s.to; reason = s.reason; bytes = s.bytes; is = s.is; act = inr s.act }))

    from_either : (a : HasSent (act ∷ []) actor.mac actor.now actor.root mesh (on_ok_ok (after_acts setup actor acts) (after_act setup actor act mesh) after e).0) (b : HasSent acts actor.mac actor.now actor.root (on_ok_ok (after_acts setup actor acts) (after_act setup actor act mesh) after e).0 after)
        (event : Event) → Has a.more_events event ⊎ Has b.more_events event → IsOfActs (act ∷ acts) actor.mac actor.now event
    from_either a b event (inl has) = first_one event (a.came event has)
    from_either a b event (inr has) = later_one event (b.came event has)

-- what an input leaves
pub record HasGiven (setup : Setup) (place now root : ℕ) (node : NodeLog) (given : Given) (mesh after : Mesh) : Type 0 where
  pub nodes : after.nodes ≡ noted_at place (entry_of setup node now given) mesh.nodes
  pub more_puts : List LanPut
  pub puts : after.puts ≡ mesh.puts ++ more_puts
  pub put : (put : LanPut) → Has more_puts put → IsPut (entry_of setup node now given).acts put
  pub more : List SentFrame
  pub frames : after.frames ≡ mesh.frames ++ more
  pub made : (frame : SentFrame) → Has more frame → IsFromActs (entry_of setup node now given).acts root frame
  pub kept : (event : Event) → Has mesh.events event → Has after.events event
  pub printed : (event : Event) → Has (entry_of setup node now given).acts (Print event) → Has after.events event
  pub more_events : List Event
  pub events : after.events ≡ mesh.events ++ more_events
  pub came : (event : Event) → Has more_events event → IsOfActs (entry_of setup node now given).acts node.mac now event

noted_given : (setup : Setup) (place now root : ℕ) (node : NodeLog) (given : Given) (mesh mid after : Mesh) → HasSent (entry_of setup node now given).acts node.mac now root mesh mid → after.nodes ≡ noted_at place (entry_of setup node now given) mid.nodes → after.frames ≡ mid.frames → after.events ≡ mid.events → after.puts ≡ mid.puts
    → HasGiven setup place now root node given mesh after
noted_given setup place now root node given mesh mid after s nodes frames events puts = record {
  nodes = nodes ∙ ap (noted_at place (entry_of setup node now given)) s.nodes;
  more_puts = s.more_puts;
  puts = puts ∙ s.puts;
  put = s.put;
  more = s.more;
  frames = frames ∙ s.frames;
  made = s.made;
  kept = λ event has. subst (λ es. Has es event) (sym events) (s.kept event has);
  printed = λ event has. subst (λ es. Has es event) (sym events) (s.printed event has);
  more_events = s.more_events;
  events = events ∙ s.events;
  came = s.came;
}

same_nodes : (made after : Mesh) → made ≡ after → after.nodes ≡ made.nodes
same_nodes made after same = ap (λ (m : Mesh). m.nodes) (sym same)

same_frames : (made after : Mesh) → made ≡ after → after.frames ≡ made.frames
same_frames made after same = ap (λ (m : Mesh). m.frames) (sym same)

same_events : (made after : Mesh) → made ≡ after → after.events ≡ made.events
same_events made after same = ap (λ (m : Mesh). m.events) (sym same)

same_puts : (made after : Mesh) → made ≡ after → after.puts ≡ made.puts
same_puts made after same = ap (λ (m : Mesh). m.puts) (sym same)

pub given_is : (setup : Setup) (place now root : ℕ) (node : NodeLog) (given : Given) (mesh after : Mesh) → slice_get mesh.nodes place ≡ Some node → given_to setup place now root given mesh ≡ Ok after → HasGiven setup place now root node given mesh after
given_is setup place now root node given mesh after found e =
    let entry = entry_of setup node now given in
    let actor : Actor = record { place = place; mac = node.mac; now = now; root = root } in
    let step : after_entry setup actor entry mesh ≡ Ok after =
    not_passed setup actor mesh (setup.node_limit node.mac node.log now given) (after_entry setup actor entry mesh) after (ap (λ (o : Option NodeLog). given_node setup place now root given o mesh) (sym found) ∙ e) in
    let p = on_ok_ok (noted place entry) (after_acts setup actor entry.acts mesh) after step in
    let s = acts_sent setup actor entry.acts mesh p.0 p.1 in
    let made : Mesh = record p.0 { nodes = noted_at place entry p.0.nodes } in
    let same : made ≡ after = ok_one made after p.2 in
    noted_given setup place now root node given mesh p.0 after s (same_nodes made after same) (same_frames made after same) (same_events made after same) (same_puts made after same)
