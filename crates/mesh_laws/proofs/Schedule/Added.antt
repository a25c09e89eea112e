-- Nothing is added before the last happening, and all that happens is after_happening out.
use Rattle.std.proofs.Common.{◌≡◌, ℕ, suc, ◌+◌, ◌*◌, ◌<◌, ◌≤◌, ◌⊎◌, inl, inr, List, [], ◌∷◌, ◌++◌, length, slice_get, Option, Some, None, Ok, refl, sym, ap, ◌∙◌, subst, arith, length-append}
use Rattle.std.specs.Fn.{iterate}
use Rattle.mesh_model.specs.declared.happening.Happening.{Happening}
use Rattle.mesh_model.specs.declared.route_line.RouteLine.{RouteLine}
use Rattle.mesh_model.specs.declared.happening.Class.TheVariants.{NodeTick}
use Rattle.mesh_model.specs.Net.Happenings.{Before}
use Rattle.mesh_model.specs.Clients.Log.{LogEntry}
use Rattle.mesh_model.specs.Net.Lans.{with_lan}
use Rattle.mesh_model.specs.Net.Mesh.{NetLan, NetLink, SentFrame, NodeLog, Mesh, begun_mesh, Setup}
use Rattle.mesh_model.specs.Net.Due.{Fate, Once, Never, Twice, Held, fate_of, arrivals_by, arrivals_over, arrivals, tick_time, ticks_in, tick_at, next_due}
use Rattle.mesh_model.specs.Net.Next.{Has, Happens, delivers, lan_delivers, ticks, AtMost, IsNext}
use Rattle.mesh_laws.specs.Soundness.{HadItsTicks, IsSound, FitsPlaces, GivesItsBytes, KeepsBytes, places}
use Rattle.mesh_model.specs.Net.Runs.{after_happening, Course, turn, going_on}
use Rattle.mesh_laws.proofs.Schedule.Order.{before_irrefl, before_at_most, at_most_before, by_moment, cases, both_at_most}
use Rattle.mesh_laws.proofs.Schedule.Due.{due_is_next}
use Rattle.mesh_laws.proofs.Schedule.Members.{get_either, get_last}
use Rattle.mesh_laws.proofs.Schedule.Sends.{Adds}
use Rattle.mesh_laws.proofs.Schedule.Steps.{Was, ticks_of, step_is}
use Rattle.mesh_laws.proofs.Schedule.Sound.{steps_keep_sound}
use Rattle.mesh_laws.proofs.Schedule.Runs.{Turned, rests, goes, stops, turned, turns_keep, Fine, Iterates, iterate-add}
use Rattle.mesh_laws.proofs.Schedule.Kept.{runs_end_quiet}

-- ---- what is added comes later
-- a frame arrives after it was sent
pub later_of : (fate : Fate) (sent delay moment : ℕ) → 1 ≤ delay → Has (arrivals_by fate sent delay) moment → sent < moment
later_of Once sent delay moment l (inl e) = omega (arith, l, e)
later_of Once sent delay moment l (inr h) = absurd h
later_of Never sent delay moment l h = absurd h
later_of Twice sent delay moment l (inl e) = omega (arith, l, e)
later_of Twice sent delay moment l (inr (inl e)) = omega (arith, l, e)
later_of Twice sent delay moment l (inr (inr h)) = absurd h
later_of Held sent delay moment l h = absurd h

later_over : (mesh : Mesh) (frame : SentFrame) (o : Option NetLink) (moment : ℕ) → IsSound mesh → slice_get mesh.links frame.link ≡ o → Has (arrivals_over o frame) moment → frame.moment < moment
later_over mesh frame None moment sound found h = absurd h
later_over mesh frame (Some link) moment sound found h = later_of (fate_of link.pattern frame.turn) frame.moment link.delay moment (sound.delays frame.link link found) h

-- what is added at a moment happens after it
pub added : (setup : Setup) (extra : ℕ → ℕ) (now : ℕ) (mesh after : Mesh) (x : Happening) → IsSound mesh → ((place : ℕ) (node : NodeLog) → slice_get after.nodes place ≡ Some node → Was mesh.nodes after.frames (extra place) place node) → Adds setup now mesh after → Happens after x → Happens mesh x ⊎ (now < x.moment)
added setup extra now mesh after x sound nodes adds (delivers d) = either (get_either mesh.frames adds.more x.place d.frame (subst (λ fs. slice_get fs x.place ≡ Some d.frame) adds.frames d.found))
  where
    arrives : Has (arrivals mesh.links d.frame) x.moment
    arrives = subst (λ ls. Has (arrivals ls d.frame) x.moment) adds.links d.arrives

    either : (slice_get mesh.frames x.place ≡ Some d.frame) ⊎ Has adds.more d.frame → Happens mesh x ⊎ (now < x.moment)
    either (inl found) = inl (delivers (record { class_is = d.class_is; frame = d.frame; found = found; arrives = arrives }))
    either (inr new) =
        let l = later_over mesh d.frame (slice_get mesh.links d.frame.link) x.moment sound refl arrives in
        let m = adds.sent d.frame new in
        inr (omega (arith, l, m))
added setup extra now mesh after x sound nodes adds (lan_delivers d) = either (get_either mesh.puts adds.more_puts x.place d.put (subst (λ ps. slice_get ps x.place ≡ Some d.put) adds.puts d.found))
  where
    either : (slice_get mesh.puts x.place ≡ Some d.put) ⊎ Has adds.more_puts d.put → Happens mesh x ⊎ (now < x.moment)
    either (inl found) = inl (lan_delivers (record { put = d.put; found = found; is = d.is }))
    either (inr new) =
        let l : x.moment ≡ d.put.moment + 1 = ap (λ (h : Happening). h.moment) d.is in
        let m = adds.put d.put new in
        inr (omega (arith, l, m))
added setup extra now mesh after x sound nodes adds (ticks d) =
    let w = nodes x.place d.node d.found in
    inl (ticks (record {
      node = w.node;
      found = w.found;
      index = d.index;
      is = d.is ∙ ap (λ m. record { moment = m + tick_time * suc d.index; class = NodeTick; place = x.place }) w.grew.made;
    }))

pub nothing_before : (setup : Setup) (t : ℕ) (mesh after : Mesh) (h x : Happening) → IsSound mesh → IsNext t mesh h → after_happening setup h mesh ≡ Ok after → Happens after x → Happens mesh x ⊎ Before h x
nothing_before setup t mesh after h x sound n e happens = let s = step_is setup mesh h after e in either (added setup (ticks_of h.class h.place) h.moment mesh after x sound s.nodes s.adds happens)
  where
    either : Happens mesh x ⊎ (h.moment < x.moment) → Happens mesh x ⊎ Before h x
    either (inl p) = inl p
    either (inr l) = inr (by_moment h x l)

-- ---- all is after_happening out
abbrev Seen : Setup → ℕ → Course → Happening → Type 0
Seen setup t begin x = (n : ℕ) × (next_due t (iterate (turn setup t) n begin).mesh ≡ Some x)

record Covers (setup : Setup) (t : ℕ) (begin o : Course) : Type 0 where
  sound : IsSound o.mesh
  way : Iterates (turn setup t) begin o
  seen : (x : Happening) → Happens o.mesh x → Before begin.mesh.last x → AtMost x o.mesh.last → Seen setup t begin x

one_more : (setup : Setup) (t : ℕ) (begin o : Course) → Iterates (turn setup t) begin o → Iterates (turn setup t) begin (turn setup t o)
one_more setup t begin o w = (w.0 + 1, ap (turn setup t) w.1 ∙ sym (iterate-add (turn setup t) w.0 1 begin))

covers_turn : (setup : Setup) (t : ℕ) (begin o after : Course) → FitsPlaces setup → Covers setup t begin o → after ≡ turn setup t o → Turned setup t o after → Covers setup t begin after
covers_turn setup t begin o after fits c is (rests d e) = subst (Covers setup t begin) (sym e) c
covers_turn setup t begin o after fits c is (stops h limit s n r e) = record {
  sound = subst (λ (x : Course). IsSound x.mesh) (sym e) c.sound;
  way = subst (Iterates (turn setup t) begin) (sym is) (one_more setup t begin o c.way);
  seen = subst (λ (y : Course). (x : Happening) → Happens y.mesh x → Before begin.mesh.last x → AtMost x y.mesh.last → Seen setup t begin x) (sym e) c.seen;
}
covers_turn setup t begin o after fits c is (goes h mesh s n r e) =
    let next = due_is_next t o.mesh c.sound h n in
    record {
      sound = subst (λ (x : Course). IsSound x.mesh) (sym e) (steps_keep_sound setup t o.mesh mesh h fits c.sound next r);
      way = subst (Iterates (turn setup t) begin) (sym is) (one_more setup t begin o c.way);
      seen = subst (λ (y : Course). (x : Happening) → Happens y.mesh x → Before begin.mesh.last x → AtMost x y.mesh.last → Seen setup t begin x) (sym e)
          (λ x happens since until. either x happens since (subst (AtMost x) (step_is setup o.mesh h mesh r).last until) next (nothing_before setup t o.mesh mesh h x c.sound next r happens));
    }
  where
    now : (x : Happening) → AtMost x h → AtMost h x → Seen setup t begin x
    now x p q =
        let same : h ≡ x = both_at_most h x q p in
        (c.way.0, ap (λ (y : Course). next_due t y.mesh) (sym c.way.1) ∙ n ∙ ap Some same)

    split : (x : Happening) → Happens o.mesh x → Before begin.mesh.last x → AtMost x h → IsNext t o.mesh h → AtMost x o.mesh.last ⊎ Before o.mesh.last x → Seen setup t begin x
    split x happens since until next (inl p) = c.seen x happens since p
    split x happens since until next (inr p) = now x until (next.first x happens p)

    either : (x : Happening) → Happens mesh x → Before begin.mesh.last x → AtMost x h → IsNext t o.mesh h → Happens o.mesh x ⊎ Before h x → Seen setup t begin x
    either x happens since until next (inl p) = split x p since until next (cases x o.mesh.last)
    either x happens since until next (inr p) = absurd (before_irrefl h (before_at_most h x h p until))

covers_all : (setup : Setup) (t : ℕ) (o : Course) → FitsPlaces setup → IsSound o.mesh → Covers setup t o (going_on setup t o)
unfolding going_on
covers_all setup t o fits sound = turns_keep setup t (Covers setup t o) (λ x c. covers_turn setup t o x (turn setup t x) fits c refl (turned setup t x)) 82 o (record {
  sound = sound;
  way = (0, refl);
  seen = λ x happens since until. absurd (before_irrefl x (at_most_before x o.mesh.last x until since));
})

pub all_carried : (setup : Setup) (t : ℕ) (o : Course) (x : Happening) → FitsPlaces setup → Fine t o → t ≤ 1099511627776 → (going_on setup t o).stop ≡ None → Happens (going_on setup t o).mesh x → Before o.mesh.last x → x.moment ≤ t → Seen setup t o x
all_carried setup t o x fits fine low s happens since within =
    let c = covers_all setup t o fits fine.sound in
    c.seen x happens since (until (cases x (going_on setup t o).mesh.last))
  where
    until : AtMost x (going_on setup t o).mesh.last ⊎ Before (going_on setup t o).mesh.last x → AtMost x (going_on setup t o).mesh.last
    until (inl p) = p
    until (inr p) = absurd (let l = runs_end_quiet setup t o fits fine low s x happens p in omega (arith, l, within))

-- ---- lines between runs
-- a new node has had no tick
new_ticked : (last : Happening) (place : ℕ) (node : NodeLog) → node.log ≡ [] → last.moment ≤ node.made → HadItsTicks last place node
new_ticked last place node new late =
    let none : ticks_in node.log ≡ 0 = ap ticks_in new in
    let first : Before last (tick_at place node 1) = by_moment last (tick_at place node 1) (omega (arith, late)) in
    record { had = inl none; to_come = subst (λ n. Before last (tick_at place node (suc n))) (sym none) first }

pub nodes_sound : (mesh : Mesh) (new : NodeLog) → IsSound mesh → new.log ≡ [] → mesh.last.moment ≤ new.made → length mesh.nodes < places → IsSound (record mesh { nodes = mesh.nodes ++ new ∷ [] })
nodes_sound mesh new sound empty late few = record {
  ticked = λ place node found. either place node (get_last mesh.nodes new place node found);
  few_frames = sound.few_frames;
  few_puts = sound.few_puts;
  few_nodes = subst (λ k. k ≤ places) (sym (length-append mesh.nodes (new ∷ []))) (omega (arith, few));
  low_last = sound.low_last;
  on_links = sound.on_links;
  on_lans = sound.on_lans;
  delays = sound.delays;
}
  where
    either : (place : ℕ) (node : NodeLog) → (slice_get mesh.nodes place ≡ Some node) ⊎ (node ≡ new) → HadItsTicks mesh.last place node
    either place node (inl found) = sound.ticked place node found
    either place node (inr e) = subst (HadItsTicks mesh.last place) (sym e) (new_ticked mesh.last place new empty late)

pub links_sound : (mesh : Mesh) (link : NetLink) → IsSound mesh → 1 ≤ link.delay → IsSound (record mesh { links = mesh.links ++ link ∷ [] })
links_sound mesh link sound l = record {
  ticked = sound.ticked;
  few_frames = sound.few_frames;
  few_puts = sound.few_puts;
  few_nodes = sound.few_nodes;
  low_last = sound.low_last;
  on_links = λ place frame found.
      let l = sound.on_links place frame found in
      subst (λ n. frame.link < n) (sym (length-append mesh.links (link ∷ []))) (omega (arith, l));
  on_lans = sound.on_lans;
  delays = λ place x found. either place x (get_last mesh.links link place x found);
}
  where
    either : (place : ℕ) (x : NetLink) → (slice_get mesh.links place ≡ Some x) ⊎ (x ≡ link) → 1 ≤ x.delay
    either place x (inl found) = sound.delays place x found
    either place x (inr e) = subst (λ (y : NetLink). 1 ≤ y.delay) (sym e) l

-- one more LAN changes nothing else
pub lan_sound : (mesh : Mesh) (lan : NetLan) → IsSound mesh → IsSound (with_lan lan mesh)
lan_sound mesh lan s = record {
  ticked = s.ticked;
  few_frames = s.few_frames;
  few_puts = s.few_puts;
  few_nodes = s.few_nodes;
  low_last = s.low_last;
  on_links = s.on_links;
  on_lans = λ place put found.
      let l = s.on_lans place put found in
      subst (λ n. put.lan < n) (sym (length-append mesh.lans (lan ∷ []))) (omega (arith, l));
  delays = s.delays;
}

pub empty_sound : (watch : Option (List RouteLine)) → IsSound (begun_mesh watch)
empty_sound watch = record {
  ticked = λ place node found. none place node found;
  few_frames = omega arith;
  few_puts = omega arith;
  few_nodes = omega arith;
  low_last = omega arith;
  on_links = λ place frame found. cc;
  on_lans = λ place put found. cc;
  delays = λ place link found. cc;
}
  where
    none : (place : ℕ) (node : NodeLog) → slice_get {X = NodeLog} [] place ≡ Some node → HadItsTicks (begun_mesh watch).last place node
    none place node found = cc

pub empty_bytes : (watch : Option (List RouteLine)) → KeepsBytes (begun_mesh watch)
empty_bytes watch place node found = none place node found
  where
    none : (place : ℕ) (node : NodeLog) → slice_get {X = NodeLog} [] place ≡ Some node → (entry : LogEntry) → Has node.log entry → GivesItsBytes (begun_mesh watch).frames entry.given
    none place node found entry has = cc
