-- Every happening of a run is a step, and moments never fall.
use Rattle.std.proofs.Common.{◌≡◌, ◌≤◌, ℕ, suc, List, [], ◌∷◌, append-nil, filter, slice_get, Option, Some, None, Ok, refl, sym, ap, subst, ◌∙◌, arith}
use Rattle.std.specs.Option.{option_map_or}
use Rattle.mesh_base.specs.declared.address.Mac.{Mac}
use Rattle.mesh_model.specs.declared.happening.Class.{Class}
use Rattle.mesh_model.specs.declared.happening.Class.TheVariants.{LinkDelivery, LanDelivery, NodeTick}
use Rattle.mesh_model.specs.declared.happening.Happening.{Happening}
use Rattle.mesh_model.specs.Clients.Log.{Given, Tick, LinkFrame, LanFrame, Line, LineGiven}
use Rattle.mesh_model.specs.Net.Due.{next_due, ticks_in}
use Rattle.mesh_model.specs.Net.Happenings.{Before}
use Rattle.mesh_model.specs.Net.Inputs.{all_given, entry_of, given_to}
use Rattle.mesh_model.specs.Net.Lans.{gets, lan_delivered, put_given, put_over, reach_events, with_events}
use Rattle.mesh_model.specs.Net.Limits.{scenario_setup}
use Rattle.mesh_model.specs.Net.Mesh.{NodeLog, NetLan, NetLink, LanPut, SentFrame, Mesh, Setup, address_at}
use Rattle.mesh_model.specs.Net.Next.{IsNext, IsQuiet}
use Rattle.mesh_model.specs.Net.Runs.{Course, PassedLimit, after_happening, begin, delivered, effect, frame_given, frame_over, going_on, throughput_between, tick_given, ticked, turn, with_last}
use Rattle.mesh_model.specs.Packets.LanFrames.{client_frame_in, lan_message_of}
use Rattle.mesh_model.specs.Packets.Payload.{ClientFrame}
use Rattle.mesh_model.specs.Routes.Queries.{Queries}
use Rattle.mesh_laws.specs.Soundness.{FitsPlaces, IsSound}
use Rattle.mesh_laws.proofs.Schedule.Due.{due_is_next}
use Rattle.mesh_laws.proofs.Schedule.Order.{moments}
use Rattle.mesh_laws.proofs.Schedule.Runs.{Fine, Turned, fine_turn, goes, rests, stops, turned, turns_keep}
use Rattle.mesh_laws.proofs.Schedule.Sends.{as_ok, ok_one, on_ok_ok}
use Rattle.mesh_laws.proofs.Schedule.Steps.{get_front, step_is}
use Rattle.mesh_tie.specs.PlainRuns.{NoneIsLater}
use Rattle.mesh_tie.specs.Sources.{IsWhole}
use Rattle.mesh_tie.specs.Steps.{IsReachable, Steps, bridged_event, frame_comes, goes_on, lan_comes, line_gives, newest_moment, TellsClient, node_ticks, put_reaches, time_passes, routes_told}
use Rattle.mesh_tie.specs.TieLaws.{AllKeep}
use Rattle.mesh_tie.proofs.NodeLists.{Renewed, another, itself, renewed}
use Rattle.mesh_tie.proofs.OrderSteps.{orderly}
use Rattle.mesh_tie.proofs.SentLemmas.{given_is}
use Rattle.mesh_model.specs.Net.Watching.{lines_told, with_lines}

-- ---- one input
-- a mesh that is reached after some step, or none
pub record Comes (queries : Mac → Queries) (mesh after : Mesh) (now : ℕ) : Type 0 where
  pub reachable : IsReachable queries after
  pub settled : NoneIsLater after now

pub later_settled : (mesh : Mesh) (bound now : ℕ) → NoneIsLater mesh bound → bound ≤ now → NoneIsLater mesh now
later_settled mesh bound now settled late place node found = let low = settled place node found in omega (arith, low, late)

stays : (queries : Mac → Queries) (mesh after : Mesh) (now : ℕ) → IsReachable queries mesh → NoneIsLater mesh now → as_ok mesh ≡ as_ok after → Comes queries mesh after now
stays queries mesh after now r settled e =
    let same : mesh ≡ after = ok_one mesh after e in
    subst (λ m. Comes queries mesh m now) same (record { reachable = r; settled = settled })

given_settled : (queries : Mac → Queries) (mesh after : Mesh) (place now root : ℕ) (node : NodeLog) (given : Given) → NoneIsLater mesh now → slice_get mesh.nodes place ≡ Some node → given_to (scenario_setup queries) place now root given mesh ≡ Ok after → NoneIsLater after now
given_settled queries mesh after place now root node given settled found is at n got =
    go (renewed place (entry_of (scenario_setup queries) node now given) mesh.nodes at n (subst (λ ns. slice_get ns at ≡ Some n) (given_is (scenario_setup queries) place now root node given mesh after found is).nodes got))
  where
    go : Renewed place (entry_of (scenario_setup queries) node now given) mesh.nodes at n → newest_moment n.log ≤ now
    go (another d old) = settled at n old
    go (itself before same old noted) = subst (λ (x : NodeLog). newest_moment x.log ≤ now) (sym noted) (omega arith)

-- what a step at a node leads to, where there is a node
pub given_comes : (queries : Mac → Queries) (mesh after : Mesh) (place now root : ℕ) (given : Given) → IsReachable queries mesh → NoneIsLater mesh now
    → ((node : NodeLog) → slice_get mesh.nodes place ≡ Some node → newest_moment node.log ≤ now → given_to (scenario_setup queries) place now root given mesh ≡ Ok after → Steps queries mesh after)
    → given_to (scenario_setup queries) place now root given mesh ≡ Ok after → Comes queries mesh after now
given_comes queries mesh after place now root given r settled step is = go (slice_get mesh.nodes place) refl
  where
    go : (o : Option NodeLog) → slice_get mesh.nodes place ≡ o → Comes queries mesh after now
    go None none = stays queries mesh after now r settled (ap (λ (o : Option NodeLog). Rattle.mesh_model.specs.Net.Inputs.given_node (scenario_setup queries) place now root given o mesh) (sym none) ∙ is)
    go (Some node) found = record {
      reachable = goes_on mesh after r (step node found (settled place node found) is);
      settled = given_settled queries mesh after place now root node given settled found is;
    }

-- an address of a node, or that of no station, is whole
address_whole : (queries : Mac → Queries) (mesh : Mesh) (place : ℕ) → IsReachable queries mesh → IsWhole (address_at place mesh.nodes)
address_whole queries mesh place r = go (slice_get mesh.nodes place) (λ node found. (orderly queries mesh r).whole place node found)
  where
    go : (o : Option NodeLog) → ((node : NodeLog) → o ≡ Some node → IsWhole node.mac) → IsWhole (option_map_or (λ (node : NodeLog). node.mac) o (record { 0 = Rattle.std.specs.Prelude.replicate 6 0 }))
    go None whole = refl
    go (Some node) whole = whole node refl

pub delivered_comes : (queries : Mac → Queries) (mesh after : Mesh) (place now : ℕ) → AllKeep queries → IsReachable queries mesh → NoneIsLater mesh now → delivered (scenario_setup queries) place now mesh ≡ Ok after → Comes queries mesh after now
delivered_comes queries mesh after place now keep r settled is = by_frame (slice_get mesh.frames place) refl is
  where
    setup : Setup
    setup = scenario_setup queries

    by_link : (frame : SentFrame) → slice_get mesh.frames place ≡ Some frame → (o : Option NetLink) → frame_over (scenario_setup queries) place now frame o mesh ≡ Ok after → Comes queries mesh after now
    by_link frame sent None e = stays queries mesh after now r settled e
    by_link frame sent (Some link) e =
        let from = address_at link.from mesh.nodes in
        let throughput = throughput_between link.to link.from mesh.links in
        given_comes queries mesh after link.to now frame.root (LinkFrame (suc place) from throughput frame.bytes) r settled
        (λ node found may given. frame_comes mesh after link.to now place throughput from node frame found may sent (address_whole queries mesh link.from r) given) e

    by_frame : (o : Option SentFrame) → slice_get mesh.frames place ≡ o → frame_given (scenario_setup queries) place now o mesh ≡ Ok after → Comes queries mesh after now
    by_frame None sent e = stays queries mesh after now r settled e
    by_frame (Some frame) sent e = by_link frame sent (slice_get mesh.links frame.link) e

ticked_comes : (queries : Mac → Queries) (mesh after : Mesh) (place now : ℕ) → IsReachable queries mesh → NoneIsLater mesh now → ticked (scenario_setup queries) place now mesh ≡ Ok after → Comes queries mesh after now
ticked_comes queries mesh after place now r settled is = by_node (slice_get mesh.nodes place) refl is
  where
    by_node : (o : Option NodeLog) → slice_get mesh.nodes place ≡ o → tick_given (scenario_setup queries) place now o mesh ≡ Ok after → Comes queries mesh after now
    by_node None found e = stays queries mesh after now r settled e
    by_node (Some node) found e = record {
      reachable = goes_on mesh after r (node_ticks mesh after place now node found (settled place node found) e);
      settled = given_settled queries mesh after place now (suc (ticks_in node.log)) node (Tick (suc (ticks_in node.log))) settled found e;
    }

-- ---- a LAN
-- what was put stays
puts_stay : (queries : Mac → Queries) (mesh after : Mesh) (place now root : ℕ) (given : Given) (number : ℕ) (put : LanPut) → given_to (scenario_setup queries) place now root given mesh ≡ Ok after → slice_get mesh.puts number ≡ Some put → slice_get after.puts number ≡ Some put
puts_stay queries mesh after place now root given number put is found = go (slice_get mesh.nodes place) refl
  where
    go : (o : Option NodeLog) → slice_get mesh.nodes place ≡ o → slice_get after.puts number ≡ Some put
    go None none =
        let same : mesh ≡ after = ok_one mesh after (ap (λ (o : Option NodeLog). Rattle.mesh_model.specs.Net.Inputs.given_node (scenario_setup queries) place now root given o mesh) (sym none) ∙ is) in
        subst (λ (m : Mesh). slice_get m.puts number ≡ Some put) same found
    go (Some node) there =
        let has = given_is (scenario_setup queries) place now root node given mesh after there is in
        ap (λ ps. slice_get ps number) has.puts ∙ get_front mesh.puts has.more_puts number put found

-- the gateways of a LAN take a frame of it, one after another
lan_all : (queries : Mac → Queries) (places : List ℕ) (mesh after : Mesh) (now number : ℕ) (put : LanPut) → IsReachable queries mesh → NoneIsLater mesh now → slice_get mesh.puts number ≡ Some put
    → all_given (scenario_setup queries) places now (LanFrame put.bytes) mesh ≡ Ok after → Comes queries mesh after now
lan_all queries [] mesh after now number put r settled among is = stays queries mesh after now r settled is
lan_all queries (place ∷ rest) mesh after now number put r settled among is =
    let given = LanFrame put.bytes in
    let p = on_ok_ok (all_given (scenario_setup queries) rest now given) (given_to (scenario_setup queries) place now 0 given mesh) after is in
    let c = given_comes queries mesh p.0 place now 0 given r settled (λ node found may got. lan_comes mesh p.0 place now number node put found may among got) p.1 in
    let d = lan_all queries rest p.0 after now number put c.reachable c.settled (puts_stay queries mesh p.0 place now 0 given number put p.1 among) p.2 in
    record { reachable = d.reachable; settled = d.settled }

-- nodes are given what a line gives, one after another
pub lines_all : (queries : Mac → Queries) (places : List ℕ) (mesh after : Mesh) (now : ℕ) (line : LineGiven) → IsReachable queries mesh → NoneIsLater mesh now → TellsClient line → all_given (scenario_setup queries) places now (Line line) mesh ≡ Ok after → Comes queries mesh after now
lines_all queries [] mesh after now line r settled of is = stays queries mesh after now r settled is
lines_all queries (place ∷ rest) mesh after now line r settled of is =
    let p = on_ok_ok (all_given (scenario_setup queries) rest now (Line line)) (given_to (scenario_setup queries) place now 0 (Line line) mesh) after is in
    let c = given_comes queries mesh p.0 place now 0 (Line line) r settled (λ node found may got. line_gives mesh p.0 place now node line found may of got) p.1 in
    let d = lines_all queries rest p.0 after now line c.reachable c.settled of p.2 in
    record { reachable = d.reachable; settled = d.settled }

-- its event, where it has one
put_event_comes : (queries : Mac → Queries) (mesh : Mesh) (now number : ℕ) (put : LanPut) → IsReachable queries mesh → slice_get mesh.puts number ≡ Some put → (o : Option ClientFrame) → client_frame_in (lan_message_of put.bytes) ≡ o → (by : Option ℕ)
    → IsReachable queries (with_events (reach_events now put.lan by o) mesh)
put_event_comes queries mesh now number put r among None is by = subst (λ es. IsReachable queries (record mesh { events = es })) (sym (append-nil mesh.events)) r
put_event_comes queries mesh now number put r among (Some frame) is None = subst (λ es. IsReachable queries (record mesh { events = es })) (sym (append-nil mesh.events)) r
put_event_comes queries mesh now number put r among (Some frame) is (Some gateway) = goes_on mesh (with_events (bridged_event now put frame ∷ []) mesh) r (put_reaches mesh number now put frame among is)

lan_delivered_comes : (queries : Mac → Queries) (mesh after : Mesh) (place now : ℕ) → IsReachable queries mesh → NoneIsLater mesh now → lan_delivered (scenario_setup queries) place now mesh ≡ Ok after → Comes queries mesh after now
lan_delivered_comes queries mesh after place now r settled is = by_put (slice_get mesh.puts place) refl is
  where
    by_lan : (put : LanPut) → slice_get mesh.puts place ≡ Some put → (o : Option NetLan) → put_over (scenario_setup queries) now put (client_frame_in (lan_message_of put.bytes)) o mesh ≡ Ok after → Comes queries mesh after now
    by_lan put among None e = stays queries mesh after now r settled e
    by_lan put among (Some lan) e =
        let frame = client_frame_in (lan_message_of put.bytes) in
        let told : Mesh = with_events (reach_events now put.lan put.by frame) mesh in
        let c = lan_all queries (filter (gets frame put.by) lan.gateways) told after now place put (put_event_comes queries mesh now place put r among frame refl put.by) settled among e in
        record { reachable = c.reachable; settled = c.settled }

    by_put : (o : Option LanPut) → slice_get mesh.puts place ≡ o → put_given (scenario_setup queries) now o mesh ≡ Ok after → Comes queries mesh after now
    by_put None among e = stays queries mesh after now r settled e
    by_put (Some put) among e = by_lan put among (slice_get mesh.lans put.lan) e

-- ---- a happening
effect_comes : (queries : Mac → Queries) (mesh after : Mesh) (class : Class) (place now : ℕ) → AllKeep queries → IsReachable queries mesh → NoneIsLater mesh now → effect (scenario_setup queries) class place now mesh ≡ Ok after → Comes queries mesh after now
effect_comes queries mesh after LinkDelivery place now keep r settled is = delivered_comes queries mesh after place now keep r settled is
effect_comes queries mesh after LanDelivery place now keep r settled is = lan_delivered_comes queries mesh after place now r settled is
effect_comes queries mesh after NodeTick place now keep r settled is = ticked_comes queries mesh after place now r settled is

pub happening_comes : (queries : Mac → Queries) (mesh after : Mesh) (h : Happening) → AllKeep queries → IsReachable queries mesh → NoneIsLater mesh h.moment → after_happening (scenario_setup queries) h mesh ≡ Ok after → Comes queries mesh after h.moment
happening_comes queries mesh after h keep r settled is =
    let p = on_ok_ok (with_last (scenario_setup queries) h) (effect (scenario_setup queries) h.class h.place h.moment mesh) after is in
    let c = effect_comes queries mesh p.0 h.class h.place h.moment keep r settled p.1 in
    let lines = lines_told (scenario_setup queries) h p.0 in
    let told : Mesh = with_lines lines p.0 in
    let last : Mesh = record told { last = h } in
    let same : last ≡ after = ok_one last after p.2 in
    subst (λ m. Comes queries mesh m h.moment) same
    (record { reachable = goes_on told last (goes_on p.0 told c.reachable (routes_told p.0 lines told.watch)) (time_passes told h); settled = c.settled })

-- ---- a run
-- how far a run came: nothing was later than a bound, and what is next isn't before it
pub record Runs (queries : Mac → Queries) (t : ℕ) (o : Course) : Type 0 where
  pub fine : Fine t o
  pub reachable : IsReachable queries o.mesh
  pub bound : ℕ
  pub settled : NoneIsLater o.mesh bound
  pub within : bound ≤ t
  pub next : (h : Happening) → next_due t o.mesh ≡ Some h → bound ≤ h.moment
  pub stop : (p : PassedLimit) → o.stop ≡ Some p → bound ≤ p.moment

one_passed : (p q : PassedLimit) → Some p ≡ Some q → p ≡ q
one_passed p q e = cc

turn_runs : (queries : Mac → Queries) (t : ℕ) (o after : Course) → AllKeep queries → FitsPlaces (scenario_setup queries) → Runs queries t o → Turned (scenario_setup queries) t o after → Runs queries t after
turn_runs queries t o after keep fits c (rests d e) = subst (Runs queries t) (sym e) c
turn_runs queries t o after keep fits c (stops h limit s n d e) = subst (Runs queries t) (sym e) (record {
  fine = record { sound = c.fine.sound; within = c.fine.within };
  reachable = c.reachable;
  bound = c.bound;
  settled = c.settled;
  within = c.within;
  next = c.next;
  stop = λ p is.
      let at : h.moment ≡ p.moment = ap (λ (x : PassedLimit). x.moment) (one_passed (record { moment = h.moment; limit = limit }) p is) in
      let low = c.next h n in
      omega (arith, low, at);
})
turn_runs queries t o after keep fits c (goes h mesh s n d e) = subst (Runs queries t) (sym e) (record {
  fine = subst (Fine t) e (fine_turn (scenario_setup queries) t o after fits c.fine (goes h mesh s n d e));
  reachable = come.reachable;
  bound = h.moment;
  settled = come.settled;
  within = is.within;
  next = λ k due. rises k (due_is_next t mesh sound k due);
  stop = λ p none. absurd (no_stop p none);
})
  where
    is : IsNext t o.mesh h
    is = due_is_next t o.mesh c.fine.sound h n

    come : Comes queries o.mesh mesh h.moment
    come = happening_comes queries o.mesh mesh h keep c.reachable (later_settled o.mesh c.bound h.moment c.settled (c.next h n)) d

    sound : IsSound mesh
    sound = (subst (Fine t) e (fine_turn (scenario_setup queries) t o after fits c.fine (goes h mesh s n d e))).sound

    rises : (k : Happening) → IsNext t mesh k → h.moment ≤ k.moment
    rises k next = moments h k (subst (λ x. Before x k) (step_is (scenario_setup queries) o.mesh h mesh d).last next.after)

    no_stop : (p : PassedLimit) → (begin mesh).stop ≡ Some p → ⊥
    no_stop p none = cc

-- a run leads to a mesh that steps reach
pub run_runs : (queries : Mac → Queries) (t : ℕ) (o : Course) → AllKeep queries → FitsPlaces (scenario_setup queries) → Runs queries t o → Runs queries t (going_on (scenario_setup queries) t o)
unfolding going_on
run_runs queries t o keep fits c = turns_keep (scenario_setup queries) t (Runs queries t) (λ x r. turn_runs queries t x (turn (scenario_setup queries) t x) keep fits r (turned (scenario_setup queries) t x)) 82 o c

pub begun_runs : (queries : Mac → Queries) (t now : ℕ) (mesh : Mesh) → Fine t (begin mesh) → IsReachable queries mesh → NoneIsLater mesh now → now ≤ t → IsQuiet now mesh → Runs queries t (begin mesh)
begun_runs queries t now mesh fine r settled late quiet = record {
  fine = fine;
  reachable = r;
  bound = now;
  settled = settled;
  within = late;
  next = λ h due.
      let is = due_is_next t mesh fine.sound h due in
      let low = quiet h is.happens is.after in
      omega (arith, low);
  stop = λ p none. absurd (no_stop p none);
}
  where
    no_stop : (p : PassedLimit) → (begin mesh).stop ≡ Some p → ⊥
    no_stop p none = cc
