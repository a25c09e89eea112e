-- Each step keeps what holds of the meshes that are reached.
use Rattle.std.proofs.Common.{◌≡◌, ℕ, suc, ◌+◌, ◌*◌, ◌<◌, ◌≤◌, ◌⊎◌, inl, inr, cond, length, slice_get, Some, Ok, refl, sym, ap, ◌∙◌, subst, arith}
use Rattle.std.proofs.lemmas.Bool.{cases_eq, eq-eqb, ne_eqb}
use Rattle.std.proofs.lemmas.Option.{slice_get_within}
use Rattle.mesh_model.specs.declared.happening.Class.{Class}
use Rattle.mesh_model.specs.declared.happening.Class.TheVariants.{LinkDelivery, LanDelivery, NodeTick}
use Rattle.mesh_model.specs.declared.happening.Happening.{Happening}
use Rattle.mesh_model.specs.Net.Happenings.{Before}
use Rattle.mesh_model.specs.Net.Mesh.{NodeLog, SentFrame, LanPut, Mesh, Setup}
use Rattle.mesh_model.specs.Net.Due.{tick_time, ticks_in, tick_at}
use Rattle.mesh_model.specs.Net.Next.{Has, Happens, delivers, lan_delivers, ticks, AtMost, IsNext}
use Rattle.mesh_laws.specs.Soundness.{HadItsTicks, IsSound, FitsPlaces, places, rank}
use Rattle.mesh_model.specs.Net.Runs.{after_happening}
use Rattle.mesh_laws.proofs.Schedule.Order.{by_moment, ranks, at_most_before, both_at_most}
use Rattle.mesh_laws.proofs.Schedule.Due.{ticks_rise, tick_not_had}
use Rattle.mesh_laws.proofs.Schedule.Members.{one_some, get_either}
use Rattle.mesh_laws.proofs.Schedule.Sends.{Adds}
use Rattle.mesh_laws.proofs.Schedule.Steps.{no_ticks, ticks_of, Effect, step_is}

-- a tick of a node is one of the node after it grew
tick_after : (place : ℕ) (node after : NodeLog) → after.made ≡ node.made → (i : ℕ) → tick_at place node i ≡ tick_at place after i
tick_after place node after made i = ap (λ m. record { moment = m + tick_time * i; class = NodeTick; place = place }) (sym made)

-- a happening that isn't a tick of this node leaves it as it stands
stays : (last h : Happening) (place : ℕ) (node after : NodeLog) → AtMost last h → HadItsTicks last place node → Before h (tick_at place node (suc (ticks_in node.log))) → after.made ≡ node.made → ticks_in after.log ≡ ticks_in node.log → HadItsTicks h place after
stays last h place node after late k come made same = record { had = had k.had; to_come = move (Before h) suc come }
  where
    move : (P : Happening → Type 0) (f : ℕ → ℕ) → P (tick_at place node (f (ticks_in node.log))) → P (tick_at place after (f (ticks_in after.log)))
    move P f p = subst P (ap (λ i. tick_at place node (f i)) (sym same) ∙ tick_after place node after made (f (ticks_in after.log))) p

    until : AtMost (tick_at place node (ticks_in node.log)) last → AtMost last h → AtMost (tick_at place node (ticks_in node.log)) h
    until p (inl e) = subst (AtMost (tick_at place node (ticks_in node.log))) e p
    until p (inr q) = inr (at_most_before (tick_at place node (ticks_in node.log)) last h p q)

    had : (ticks_in node.log ≡ 0) ⊎ AtMost (tick_at place node (ticks_in node.log)) last → (ticks_in after.log ≡ 0) ⊎ AtMost (tick_at place after (ticks_in after.log)) h
    had (inl z) = inl (same ∙ z)
    had (inr p) = inr (move (λ x. AtMost x h) (λ i. i) (until p late))

-- the happening that comes next is before a tick to come that it isn't
before_tick : (t : ℕ) (mesh : Mesh) (h : Happening) (place : ℕ) (node : NodeLog) → IsNext t mesh h → slice_get mesh.nodes place ≡ Some node → HadItsTicks mesh.last place node → (h.class ≡ NodeTick → h.place ≡ place → ⊥) → Before h (tick_at place node (suc (ticks_in node.log)))
before_tick t mesh h place node n found k apart = come (n.first (tick_at place node (suc (ticks_in node.log))) (ticks (record { node = node; found = found; index = ticks_in node.log; is = refl })) k.to_come)
  where
    come : AtMost h (tick_at place node (suc (ticks_in node.log))) → Before h (tick_at place node (suc (ticks_in node.log)))
    come (inl e) = absurd (apart (ap (λ (x : Happening). x.class) e) (ap (λ (x : Happening). x.place) e))
    come (inr p) = p

no_tick : NodeTick ≡ LinkDelivery → ⊥
no_tick e = cc

no_lan_tick : NodeTick ≡ LanDelivery → ⊥
no_lan_tick e = cc

-- a tick that comes next is the node's first to come
its_first : (t : ℕ) (mesh : Mesh) (h : Happening) (node : NodeLog) → IsNext t mesh h → slice_get mesh.nodes h.place ≡ Some node → HadItsTicks mesh.last h.place node → h.class ≡ NodeTick → Happens mesh h → h ≡ tick_at h.place node (suc (ticks_in node.log))
its_first t mesh h node n found k tick_is (delivers d) = absurd (no_tick (sym tick_is ∙ d.class_is))
its_first t mesh h node n found k tick_is (lan_delivers d) = absurd (no_lan_tick (sym tick_is ∙ ap (λ (x : Happening). x.class) d.is))
its_first t mesh h node n found k tick_is (ticks d) =
    let same : d.node ≡ node = one_some d.node node (sym d.found ∙ found) in
    let h_is : h ≡ tick_at h.place node (suc d.index) = d.is ∙ ap (λ x. tick_at h.place x (suc d.index)) same in
    let low = tick_not_had mesh.last h.place node d.index k (subst (Before mesh.last) h_is n.after) in
    let tick : Happening = tick_at h.place node (suc (ticks_in node.log)) in
    let first : AtMost h tick = n.first tick (ticks (record { node = node; found = found; index = ticks_in node.log; is = refl })) k.to_come in
    both_at_most h tick first (subst (AtMost tick) (sym h_is) (ticks_rise h.place node (suc (ticks_in node.log)) (suc d.index) (omega (arith, low))))

goes_on : (t : ℕ) (mesh : Mesh) (h : Happening) (node after : NodeLog) → IsNext t mesh h → slice_get mesh.nodes h.place ≡ Some node → HadItsTicks mesh.last h.place node → h.class ≡ NodeTick → after.made ≡ node.made → ticks_in after.log ≡ suc (ticks_in node.log) → HadItsTicks h h.place after
goes_on t mesh h node after n found k tick_is made more =
    let h_is = its_first t mesh h node n found k tick_is n.happens in
    let now : tick_at h.place after (ticks_in after.log) ≡ h = ap (tick_at h.place after) more ∙ sym (tick_after h.place node after made (suc (ticks_in node.log))) ∙ sym h_is in
    record {
      had = inr (inl now);
      to_come = subst (λ x. Before x (tick_at h.place after (suc (ticks_in after.log)))) now
          (by_moment (tick_at h.place after (ticks_in after.log)) (tick_at h.place after (suc (ticks_in after.log))) (omega arith));
    }

by_class : (t : ℕ) (mesh : Mesh) (h : Happening) (place : ℕ) (node after : NodeLog) (class : Class) → h.class ≡ class → IsNext t mesh h → slice_get mesh.nodes place ≡ Some node → HadItsTicks mesh.last place node → after.made ≡ node.made → ticks_in after.log ≡ ticks_of class h.place place + ticks_in node.log → HadItsTicks h place after
by_class t mesh h place node after LinkDelivery c n found k made same = stays mesh.last h place node after (inr n.after) k (before_tick t mesh h place node n found k (λ b p. no_tick (sym b ∙ c))) made (same ∙ omega arith)
by_class t mesh h place node after LanDelivery c n found k made same = stays mesh.last h place node after (inr n.after) k (before_tick t mesh h place node n found k (λ b p. no_lan_tick (sym b ∙ c))) made (same ∙ omega arith)
by_class t mesh h place node after NodeTick c n found k made same = either (cases_eq h.place place)
  where
    either : (h.place ≡ place) ⊎ (h.place ≡ place → ⊥) → HadItsTicks h place after
    either (inl p) =
        let one : ticks_in after.log ≡ suc (ticks_in node.log) = same ∙ ap (λ b. cond b 1 0 + ticks_in node.log) (eq-eqb h.place place p) ∙ omega arith in
        subst (λ x. HadItsTicks h x after) p (goes_on t mesh h node after n (subst (λ x. slice_get mesh.nodes x ≡ Some node) (sym p) found) (subst (λ x. HadItsTicks mesh.last x node) (sym p) k) c made one)
    either (inr d) =
        let none : ticks_in after.log ≡ ticks_in node.log = same ∙ ap (λ b. cond b 1 0 + ticks_in node.log) (ne_eqb h.place place d) ∙ omega arith in
        stays mesh.last h place node after (inr n.after) k (before_tick t mesh h place node n found k (λ b p. d p)) made none

-- a happening's place is low
pub low_place : (mesh : Mesh) (h : Happening) → IsSound mesh → Happens mesh h → h.place < places
low_place mesh h sound (delivers d) = let w = slice_get_within mesh.frames h.place d.frame d.found in let f = sound.few_frames in omega (arith, w, f)
low_place mesh h sound (lan_delivers d) = let w = slice_get_within mesh.puts h.place d.put d.found in let f = sound.few_puts in omega (arith, w, f)
low_place mesh h sound (ticks d) = let w = slice_get_within mesh.nodes h.place d.node d.found in let f = sound.few_nodes in omega (arith, w, f)

pub rank_rises : (t : ℕ) (mesh : Mesh) (h : Happening) → IsSound mesh → IsNext t mesh h → rank mesh.last < rank h
rank_rises t mesh h sound n = ranks mesh.last h n.after sound.low_last (low_place mesh h sound n.happens)

pub steps_rise : (setup : Setup) (t : ℕ) (mesh after : Mesh) (h : Happening) → IsSound mesh → IsNext t mesh h → after_happening setup h mesh ≡ Ok after → (after.last ≡ h) × Before mesh.last h × (rank mesh.last < rank h)
steps_rise setup t mesh after h sound n e = ((step_is setup mesh h after e).last, n.after, rank_rises t mesh h sound n)

-- the frames of a mesh, and those that joined them, were sent over links
frames_on_links : (setup : Setup) (now : ℕ) (mesh after : Mesh) → IsSound mesh → Adds setup now mesh after → (place : ℕ) (frame : SentFrame) → slice_get after.frames place ≡ Some frame → frame.link < length after.links
frames_on_links setup now mesh after sound adds place frame found =
    subst (λ ls. frame.link < length ls) (sym adds.links) (either (get_either mesh.frames adds.more place frame (subst (λ fs. slice_get fs place ≡ Some frame) adds.frames found)))
  where
    either : (slice_get mesh.frames place ≡ Some frame) ⊎ Has adds.more frame → frame.link < length mesh.links
    either (inl old) = sound.on_links place frame old
    either (inr new) = adds.on_links frame new

-- the LAN frames of a mesh, and those that joined them, were put on LANs
puts_on_lans : (setup : Setup) (now : ℕ) (mesh after : Mesh) → IsSound mesh → Adds setup now mesh after → (place : ℕ) (put : LanPut) → slice_get after.puts place ≡ Some put → put.lan < length after.lans
puts_on_lans setup now mesh after sound adds place put found =
    subst (λ ls. put.lan < length ls) (sym adds.lans) (either (get_either mesh.puts adds.more_puts place put (subst (λ ps. slice_get ps place ≡ Some put) adds.puts found)))
  where
    either : (slice_get mesh.puts place ≡ Some put) ⊎ Has adds.more_puts put → put.lan < length mesh.lans
    either (inl old) = sound.on_lans place put old
    either (inr new) = adds.on_lans put new

pub steps_keep_sound : (setup : Setup) (t : ℕ) (mesh after : Mesh) (h : Happening) → FitsPlaces setup → IsSound mesh → IsNext t mesh h → after_happening setup h mesh ≡ Ok after → IsSound after
steps_keep_sound setup t mesh after h fits sound n e =
    let s = step_is setup mesh h after e in
    let few = s.adds.few fits sound.few_frames in
    let few_puts = s.adds.few_puts fits sound.few_puts in
    record {
      ticked = λ place node found.
          let w = s.nodes place node found in
          subst (λ x. HadItsTicks x place node) (sym s.last) (by_class t mesh h place w.node node h.class refl n w.found (sound.ticked place w.node w.found) w.grew.made w.grew.ticks);
      few_frames = few;
      few_puts = few_puts;
      few_nodes = subst (λ k. k ≤ places) (sym s.count) sound.few_nodes;
      low_last = subst (λ (x : Happening). x.place < places) (sym s.last) (low_place mesh h sound n.happens);
      on_links = frames_on_links setup h.moment mesh after sound s.adds;
      on_lans = puts_on_lans setup h.moment mesh after sound s.adds;
      delays = λ place link found. sound.delays place link (subst (λ ls. slice_get ls place ≡ Some link) s.adds.links found);
    }

-- an input that is no tick
pub lines_keep_sound : (setup : Setup) (mesh : Mesh) (now : ℕ) (after : Mesh) → FitsPlaces setup → IsSound mesh → Effect setup no_ticks now mesh after → IsSound after
lines_keep_sound setup mesh now after fits sound x =
    let few = x.adds.few fits sound.few_frames in
    let few_puts = x.adds.few_puts fits sound.few_puts in
    record {
      ticked = λ place node found.
          let w = x.nodes place node found in
          let k = sound.ticked place w.node w.found in
          let none : ticks_in node.log ≡ ticks_in w.node.log = w.grew.ticks ∙ zero_plus (ticks_in w.node.log) in
          subst (λ l. HadItsTicks l place node) (sym x.last) (stays mesh.last mesh.last place w.node node (inl refl) k k.to_come w.grew.made none);
      few_frames = few;
      few_puts = few_puts;
      few_nodes = subst (λ k. k ≤ places) (sym x.count) sound.few_nodes;
      low_last = subst (λ (y : Happening). y.place < places) (sym x.last) sound.low_last;
      on_links = frames_on_links setup now mesh after sound x.adds;
      on_lans = puts_on_lans setup now mesh after sound x.adds;
      delays = λ place link found. sound.delays place link (subst (λ ls. slice_get ls place ≡ Some link) x.adds.links found);
    }
  where
    zero_plus : (n : ℕ) → 0 + n ≡ n
    zero_plus n = omega arith
