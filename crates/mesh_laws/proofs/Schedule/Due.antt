-- The earliest candidate is the next happening.
use Rattle.std.proofs.Common.{◌≡◌, ◌↔◌, ℕ, zero, suc, ◌+◌, ◌<◌, ◌≤◌, ◌⊎◌, inl, inr, Bool, true, false, cond, nat_le, List, [], ◌∷◌, ◌++◌, map, filter, slice_get, Option, Some, None, option_and_then, refl, sym, ap, ◌∙◌, subst, arith}
use Rattle.std.proofs.lemmas.Bool.{cases_lt, cases_order, leb-true, leb-false}
use Rattle.mesh_model.specs.declared.happening.Class.TheVariants.{LinkDelivery}
use Rattle.mesh_model.specs.declared.happening.Happening.{Happening}
use Rattle.mesh_model.specs.Net.Happenings.{is_before, Before}
use Rattle.mesh_model.specs.Net.Mesh.{NetLink, SentFrame, LanPut, NodeLog, Mesh}
use Rattle.mesh_model.specs.Net.Due.{arrivals, delivery_at, deliveries, lan_delivery_at, lan_deliveries, ticks_in, tick_at, first_ticks, candidates, next_happening, next_due, if_due}
use Rattle.mesh_model.specs.Net.Next.{Has, Happens, delivers, lan_delivers, ticks, AtMost, IsNext, IsQuiet}
use Rattle.mesh_laws.specs.Soundness.{HadItsTicks, IsSound}
use Rattle.mesh_laws.proofs.Schedule.Members.{has_left, has_right, has_either, has_map, map_has, has_filter, filter_has, one_some, earliest_none, earliest_is}
use Rattle.mesh_laws.proofs.Schedule.Order.{before_irrefl, by_moment, test_before, before_test, before_at_most, at_most_trans, at_most_moments, both_at_most}

-- ---- candidates
pub record Delivers (links : List NetLink) (start : ℕ) (frames : List SentFrame) (h : Happening) : Type 0 where
  pub offset : ℕ
  pub frame : SentFrame
  pub found : slice_get frames offset ≡ Some frame
  pub class_is : h.class ≡ LinkDelivery
  pub place_is : h.place ≡ start + offset
  pub arrives : Has (arrivals links frame) h.moment

pub deliveries_have : (links : List NetLink) (start : ℕ) (frames : List SentFrame) (h : Happening) → Has (deliveries links start frames) h → Delivers links start frames h
deliveries_have links start [] h p = absurd p
deliveries_have links start (frame ∷ rest) h p = either (has_either (map (delivery_at start) (arrivals links frame)) (deliveries links (suc start) rest) h p) (deliveries_have links (suc start) rest h)
  where
    either : Has (map (delivery_at start) (arrivals links frame)) h ⊎ Has (deliveries links (suc start) rest) h → (Has (deliveries links (suc start) rest) h → Delivers links (suc start) rest h) → Delivers links start (frame ∷ rest) h
    either (inl q) more =
        let m = map_has (delivery_at start) (arrivals links frame) h q in
        record {
          offset = 0;
          frame = frame;
          found = refl;
          class_is = ap (λ (x : Happening). x.class) m.2;
          place_is = ap (λ (x : Happening). x.place) m.2 ∙ omega arith;
          arrives = subst (Has (arrivals links frame)) (sym (ap (λ (x : Happening). x.moment) m.2)) m.1;
        }
    either (inr q) more =
        let d = more q in
        record {
          offset = suc d.offset;
          frame = d.frame;
          found = d.found;
          class_is = d.class_is;
          place_is = d.place_is ∙ omega arith;
          arrives = d.arrives;
        }

pub have_delivery : (links : List NetLink) (start : ℕ) (frames : List SentFrame) (i : ℕ) (frame : SentFrame) (m : ℕ) → slice_get frames i ≡ Some frame → Has (arrivals links frame) m → Has (deliveries links start frames) (delivery_at (start + i) m)
have_delivery links start [] i frame m f a = cc
have_delivery links start (first ∷ rest) zero frame m f a =
    let start_is : start ≡ start + 0 = omega arith in
    has_left (map (delivery_at start) (arrivals links first)) (deliveries links (suc start) rest) (delivery_at (start + 0) m)
    (subst (λ p. Has (map (delivery_at start) (arrivals links first)) (delivery_at p m)) start_is
    (has_map (delivery_at start) (arrivals links first) m (subst (λ x. Has (arrivals links x) m) (sym (one_some first frame f)) a)))
have_delivery links start (first ∷ rest) (suc i) frame m f a =
    let place_is : suc start + i ≡ start + suc i = omega arith in
    has_right (map (delivery_at start) (arrivals links first)) (deliveries links (suc start) rest) (delivery_at (start + suc i) m)
    (subst (λ p. Has (deliveries links (suc start) rest) (delivery_at p m)) place_is (have_delivery links (suc start) rest i frame m f a))

pub record LanDelivers (start : ℕ) (puts : List LanPut) (h : Happening) : Type 0 where
  pub offset : ℕ
  pub put : LanPut
  pub found : slice_get puts offset ≡ Some put
  pub is : h ≡ lan_delivery_at (start + offset) put

pub lans_have : (start : ℕ) (puts : List LanPut) (h : Happening) → Has (lan_deliveries start puts) h → LanDelivers start puts h
lans_have start [] h p = absurd p
lans_have start (put ∷ rest) h (inl e) =
    let start_is : start ≡ start + 0 = omega arith in
    record { offset = 0; put = put; found = refl; is = e ∙ ap (λ p. lan_delivery_at p put) start_is }
lans_have start (put ∷ rest) h (inr q) =
    let d = lans_have (suc start) rest h q in
    let place_is : suc start + d.offset ≡ start + suc d.offset = omega arith in
    record { offset = suc d.offset; put = d.put; found = d.found; is = d.is ∙ ap (λ p. lan_delivery_at p d.put) place_is }

pub have_lan : (start : ℕ) (puts : List LanPut) (i : ℕ) (put : LanPut) → slice_get puts i ≡ Some put → Has (lan_deliveries start puts) (lan_delivery_at (start + i) put)
have_lan start [] i put f = cc
have_lan start (first ∷ rest) zero put f =
    let start_is : start ≡ start + 0 = omega arith in
    inl (ap (λ p. lan_delivery_at p put) (sym start_is) ∙ ap (lan_delivery_at start) (sym (one_some first put f)))
have_lan start (first ∷ rest) (suc i) put f =
    let place_is : suc start + i ≡ start + suc i = omega arith in
    inr (subst (λ p. Has (lan_deliveries (suc start) rest) (lan_delivery_at p put)) place_is (have_lan (suc start) rest i put f))

abbrev first_tick : ℕ → NodeLog → Happening
first_tick place node = tick_at place node (suc (ticks_in node.log))

pub record Ticks (start : ℕ) (nodes : List NodeLog) (h : Happening) : Type 0 where
  pub offset : ℕ
  pub node : NodeLog
  pub found : slice_get nodes offset ≡ Some node
  pub is : h ≡ first_tick (start + offset) node

pub ticks_have : (start : ℕ) (nodes : List NodeLog) (h : Happening) → Has (first_ticks start nodes) h → Ticks start nodes h
ticks_have start [] h p = absurd p
ticks_have start (node ∷ rest) h (inl e) =
    let start_is : start ≡ start + 0 = omega arith in
    record { offset = 0; node = node; found = refl; is = e ∙ ap (λ p. first_tick p node) start_is }
ticks_have start (node ∷ rest) h (inr q) =
    let d = ticks_have (suc start) rest h q in
    let place_is : suc start + d.offset ≡ start + suc d.offset = omega arith in
    record { offset = suc d.offset; node = d.node; found = d.found; is = d.is ∙ ap (λ p. first_tick p d.node) place_is }

pub have_tick : (start : ℕ) (nodes : List NodeLog) (i : ℕ) (node : NodeLog) → slice_get nodes i ≡ Some node → Has (first_ticks start nodes) (first_tick (start + i) node)
have_tick start [] i node f = cc
have_tick start (first ∷ rest) zero node f =
    let start_is : start ≡ start + 0 = omega arith in
    inl (ap (λ p. first_tick p node) (sym start_is) ∙ ap (first_tick start) (sym (one_some first node f)))
have_tick start (first ∷ rest) (suc i) node f =
    let place_is : suc start + i ≡ start + suc i = omega arith in
    inr (subst (λ p. Has (first_ticks (suc start) rest) (first_tick p node)) place_is (have_tick (suc start) rest i node f))

pub from_zero : (n : ℕ) → zero + n ≡ n
from_zero n = omega arith

pub candidate_happens : (mesh : Mesh) (h : Happening) → Has (candidates mesh) h → Happens mesh h
candidate_happens mesh h p = either (has_either (deliveries mesh.links 0 mesh.frames) (lan_deliveries 0 mesh.puts ++ first_ticks 0 mesh.nodes) h p)
  where
    others : Has (lan_deliveries 0 mesh.puts) h ⊎ Has (first_ticks 0 mesh.nodes) h → Happens mesh h
    others (inl q) =
        let d = lans_have 0 mesh.puts h q in
        let place_is : h.place ≡ d.offset = ap (λ (x : Happening). x.place) d.is ∙ from_zero d.offset in
        lan_delivers (record {
          put = d.put;
          found = subst (λ i. slice_get mesh.puts i ≡ Some d.put) (sym place_is) d.found;
          is = d.is ∙ ap (λ i. lan_delivery_at i d.put) (from_zero d.offset ∙ sym place_is);
        })
    others (inr q) =
        let d = ticks_have 0 mesh.nodes h q in
        let place_is : h.place ≡ d.offset = ap (λ (x : Happening). x.place) d.is ∙ from_zero d.offset in
        ticks (record {
          node = d.node;
          found = subst (λ i. slice_get mesh.nodes i ≡ Some d.node) (sym place_is) d.found;
          index = ticks_in d.node.log;
          is = d.is ∙ ap (λ i. first_tick i d.node) (from_zero d.offset ∙ sym place_is);
        })

    either : Has (deliveries mesh.links 0 mesh.frames) h ⊎ Has (lan_deliveries 0 mesh.puts ++ first_ticks 0 mesh.nodes) h → Happens mesh h
    either (inl q) =
        let d = deliveries_have mesh.links 0 mesh.frames h q in
        delivers (record {
          class_is = d.class_is;
          frame = d.frame;
          found = subst (λ i. slice_get mesh.frames i ≡ Some d.frame) (sym (d.place_is ∙ from_zero d.offset)) d.found;
          arrives = d.arrives;
        })
    either (inr q) = others (has_either (lan_deliveries 0 mesh.puts) (first_ticks 0 mesh.nodes) h q)

pub ticks_rise : (place : ℕ) (node : NodeLog) (i j : ℕ) → i ≤ j → AtMost (tick_at place node i) (tick_at place node j)
ticks_rise place node i j l = either (cases_order i j)
  where
    either : (i ≡ j) ⊎ ((i < j) ⊎ (j < i)) → AtMost (tick_at place node i) (tick_at place node j)
    either (inl e) = inl (ap (tick_at place node) e)
    either (inr (inl p)) = inr (by_moment (tick_at place node i) (tick_at place node j) (omega arith))
    either (inr (inr p)) = absurd (omega arith)

-- a tick that is after the last happening is the first to come, or after it
pub tick_not_had : (last : Happening) (place : ℕ) (node : NodeLog) (index : ℕ) → HadItsTicks last place node → Before last (tick_at place node (suc index)) → ticks_in node.log ≤ index
tick_not_had last place node index ticked after = either (cases_lt index (ticks_in node.log))
  where
    had : (ticks_in node.log ≡ 0) ⊎ AtMost (tick_at place node (ticks_in node.log)) last → index < ticks_in node.log → ⊥
    had (inl e) l = omega arith
    had (inr q) l = before_irrefl last (before_at_most last (tick_at place node (suc index)) last after (at_most_trans (tick_at place node (suc index)) (tick_at place node (ticks_in node.log)) last (ticks_rise place node (suc index) (ticks_in node.log) l) q))

    either : (index < ticks_in node.log) ⊎ (ticks_in node.log ≤ index) → ticks_in node.log ≤ index
    either (inl l) = absurd (had ticked.had l)
    either (inr l) = l

abbrev Covered : Mesh → Happening → Type 0
Covered mesh x = (c : Happening) × Has (filter (is_before mesh.last) (candidates mesh)) c × AtMost c x

pub covered : (mesh : Mesh) → IsSound mesh → (x : Happening) → Happens mesh x → Before mesh.last x → Covered mesh x
covered mesh sound x (delivers d) after =
    let x_is : delivery_at (0 + x.place) x.moment ≡ x = λ i. record { moment = x.moment; class = sym d.class_is i; place = from_zero x.place i } in
    let has : Has (deliveries mesh.links 0 mesh.frames) x = subst (Has (deliveries mesh.links 0 mesh.frames)) x_is (have_delivery mesh.links 0 mesh.frames x.place d.frame x.moment d.found d.arrives) in
    (x, has_filter (is_before mesh.last) (candidates mesh) x (before_test mesh.last x after) (has_left (deliveries mesh.links 0 mesh.frames) (lan_deliveries 0 mesh.puts ++ first_ticks 0 mesh.nodes) x has), inl refl)
covered mesh sound x (lan_delivers d) after =
    let x_is : lan_delivery_at (0 + x.place) d.put ≡ x = ap (λ p. lan_delivery_at p d.put) (from_zero x.place) ∙ sym d.is in
    let has : Has (lan_deliveries 0 mesh.puts) x = subst (Has (lan_deliveries 0 mesh.puts)) x_is (have_lan 0 mesh.puts x.place d.put d.found) in
    (x, has_filter (is_before mesh.last) (candidates mesh) x (before_test mesh.last x after) (has_right (deliveries mesh.links 0 mesh.frames) (lan_deliveries 0 mesh.puts ++ first_ticks 0 mesh.nodes) x (has_left (lan_deliveries 0 mesh.puts) (first_ticks 0 mesh.nodes) x has)), inl refl)
covered mesh sound x (ticks d) after =
    let c = first_tick x.place d.node in
    let ticked = sound.ticked x.place d.node d.found in
    let has : Has (first_ticks 0 mesh.nodes) c = subst (λ p. Has (first_ticks 0 mesh.nodes) (first_tick p d.node)) (from_zero x.place) (have_tick 0 mesh.nodes x.place d.node d.found) in
    let later = tick_not_had mesh.last x.place d.node d.index ticked (subst (Before mesh.last) d.is after) in (
      c,
      has_filter (is_before mesh.last) (candidates mesh) c (before_test mesh.last c ticked.to_come) (has_right (deliveries mesh.links 0 mesh.frames) (lan_deliveries 0 mesh.puts ++ first_ticks 0 mesh.nodes) c (has_right (lan_deliveries 0 mesh.puts) (first_ticks 0 mesh.nodes) c has)),
      subst (AtMost c) (sym d.is) (ticks_rise x.place d.node (suc (ticks_in d.node.log)) (suc d.index) (omega (arith, later))),
    )

-- ---- the next happening, whenever it is
pub record IsFirst (mesh : Mesh) (h : Happening) : Type 0 where
  pub happens : Happens mesh h
  pub after : Before mesh.last h
  pub first : (x : Happening) → Happens mesh x → Before mesh.last x → AtMost h x

pub next_first : (mesh : Mesh) → IsSound mesh → (h : Happening) → next_happening mesh ≡ Some h → IsFirst mesh h
next_first mesh sound h e =
    let l = earliest_is (filter (is_before mesh.last) (candidates mesh)) h e in
    let p = filter_has (is_before mesh.last) (candidates mesh) h l.0 in
    record {
      happens = candidate_happens mesh h p.1;
      after = test_before mesh.last h p.0;
      first = λ x happens after. let c = covered mesh sound x happens after in at_most_trans h c.0 x (l.1 c.0 c.1) c.2;
    }

pub next_none : (mesh : Mesh) → IsSound mesh → next_happening mesh ≡ None → (x : Happening) → Happens mesh x → Before mesh.last x → ⊥
next_none mesh sound e x happens after =
    let c = covered mesh sound x happens after in
    subst (λ xs. Has xs c.0) (earliest_none (filter (is_before mesh.last) (candidates mesh)) e) c.1

-- ---- the next happening until a moment
due_some : (t : ℕ) (k h : Happening) (b : Bool) → nat_le k.moment t ≡ b → cond b (Some k) None ≡ Some h → (k ≡ h) × (k.moment ≤ t)
due_some t k h true p e = (one_some k h e, leb-true k.moment t p)
due_some t k h false p e = cc

due_none : (t : ℕ) (k : Happening) (b : Bool) → nat_le k.moment t ≡ b → cond b (Some k) None ≡ None → t < k.moment
due_none t k true p e = cc
due_none t k false p e = leb-false k.moment t p

pub next_due_some : (t : ℕ) (mesh : Mesh) (h : Happening) (o : Option Happening) → next_happening mesh ≡ o → option_and_then (if_due t) o ≡ Some h → (next_happening mesh ≡ Some h) × (h.moment ≤ t)
next_due_some t mesh h None n e = cc
next_due_some t mesh h (Some k) n e =
    let p = due_some t k h (nat_le k.moment t) refl e in
    (n ∙ ap Some p.0, subst (λ (x : Happening). x.moment ≤ t) p.0 p.1)

pub due_is_next : (t : ℕ) (mesh : Mesh) → IsSound mesh → (h : Happening) → next_due t mesh ≡ Some h → IsNext t mesh h
due_is_next t mesh sound h e =
    let p = next_due_some t mesh h (next_happening mesh) refl e in
    let f = next_first mesh sound h p.0 in
    record { happens = f.happens; after = f.after; within = p.1; first = f.first }

none_is_quiet : (t : ℕ) (mesh : Mesh) → IsSound mesh → (o : Option Happening) → next_happening mesh ≡ o → option_and_then (if_due t) o ≡ None → IsQuiet t mesh
none_is_quiet t mesh sound None n e x happens after = absurd (next_none mesh sound n x happens after)
none_is_quiet t mesh sound (Some k) n e x happens after =
    let f = next_first mesh sound k n in
    let l = due_none t k (nat_le k.moment t) refl e in
    let m = at_most_moments k x (f.first x happens after) in
    omega (arith, l, m)

pub due_none_is_quiet : (t : ℕ) (mesh : Mesh) → IsSound mesh → next_due t mesh ≡ None → IsQuiet t mesh
due_none_is_quiet t mesh sound e = none_is_quiet t mesh sound (next_happening mesh) refl e

pub one_next : (t : ℕ) (mesh : Mesh) (h k : Happening) → IsNext t mesh h → IsNext t mesh k → h ≡ k
one_next t mesh h k p q = both_at_most h k (p.first k q.happens q.after) (q.first h p.happens p.after)

next_is_due : (t : ℕ) (mesh : Mesh) → IsSound mesh → (h : Happening) → IsNext t mesh h → (o : Option Happening) → next_due t mesh ≡ o → o ≡ Some h
next_is_due t mesh sound h n None e =
    absurd (let l = due_none_is_quiet t mesh sound e h n.happens n.after in let w = n.within in omega (arith, l, w))
next_is_due t mesh sound h n (Some k) e = ap Some (one_next t mesh k h (due_is_next t mesh sound k e) n)

quiet_is_none : (t : ℕ) (mesh : Mesh) → IsSound mesh → IsQuiet t mesh → (o : Option Happening) → next_due t mesh ≡ o → o ≡ None
quiet_is_none t mesh sound quiet None e = refl
quiet_is_none t mesh sound quiet (Some k) e =
    absurd (let n = due_is_next t mesh sound k e in let l = quiet k n.happens n.after in let w = n.within in omega (arith, l, w))

pub finds_next : (t : ℕ) (mesh : Mesh) → IsSound mesh → ((h : Happening) → (next_due t mesh ≡ Some h) ↔ IsNext t mesh h) × ((next_due t mesh ≡ None) ↔ IsQuiet t mesh)
finds_next t mesh sound = (
  λ h. (due_is_next t mesh sound h, λ n. next_is_due t mesh sound h n (next_due t mesh) refl),
  (due_none_is_quiet t mesh sound, λ q. quiet_is_none t mesh sound q (next_due t mesh) refl),
)
