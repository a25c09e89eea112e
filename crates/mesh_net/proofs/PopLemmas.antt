-- What is popped is the next happening, and what waits behind it.
use Rattle.std.proofs.Common.{◌≡◌, ◌↔◌, ℕ, suc, ◌+◌, ◌*◌, ◌<◌, ◌⊎◌, inl, inr, nat_eq, Bool, true, false, cond, List, ◌∷◌, ◌++◌, append_assoc, filter, length, slice_get, Some, refl, sym, ap, ◌∙◌, subst, arith}
use Rattle.std.proofs.lemmas.Bool.{eq-eqb, eqb-true, ne_eqb}
use Rattle.std.proofs.lemmas.Option.{slice_get_within}
use Rattle.mesh_model.specs.declared.happening.Class.TheVariants.{LinkDelivery, LanDelivery, NodeTick}
use Rattle.mesh_model.specs.declared.happening.Happening.{Happening}
use Rattle.mesh_model.specs.Net.Due.{candidates, deliveries, first_ticks, lan_deliveries, tick_at, tick_time, ticks_in}
use Rattle.mesh_model.specs.Net.Happenings.{Before, is_before}
use Rattle.mesh_model.specs.Net.Mesh.{NodeLog, Mesh}
use Rattle.mesh_model.specs.Net.Next.{Has, Happens, AtMost, IsNext, IsQuiet}
use Rattle.mesh_laws.specs.Soundness.{IsSound}
use Rattle.mesh_laws.proofs.Schedule.Due.{deliveries_have, lans_have, ticks_have, have_tick, from_zero, candidate_happens, covered}
use Rattle.mesh_laws.proofs.Schedule.Members.{has_left, has_right, has_either, has_filter, filter_has}
use Rattle.mesh_laws.proofs.Schedule.Order.{at_most_trans, at_most_moments, before_irrefl, before_test, before_trans, test_before}
use Rattle.mesh_laws.proofs.Schedule.Steps.{Was, at_place}
use Rattle.mesh_net.specs.Steps.{tick_now}
use Rattle.mesh_post.specs.Waiting.{Awaits, all_deliveries, IsPopped, IsNoneDue, IsSomeDue}
use Rattle.mesh_post.proofs.LookUps.{some_one, got_there}

abbrev pub AwaitsIn : List Happening → Mesh → Type 0
AwaitsIn waiting mesh = Awaits waiting mesh.last (first_ticks 0 mesh.nodes) mesh.links mesh.frames mesh.puts

-- the deliveries of all frames
abbrev deliveries_in : Mesh → List Happening
deliveries_in mesh = all_deliveries mesh.links mesh.frames mesh.puts

candidates_are : (mesh : Mesh) → deliveries_in mesh ++ first_ticks 0 mesh.nodes ≡ candidates mesh
candidates_are mesh = append_assoc (deliveries mesh.links 0 mesh.frames) (lan_deliveries 0 mesh.puts) (first_ticks 0 mesh.nodes)

is_candidate : (mesh : Mesh) (x : Happening) → Has (deliveries_in mesh ++ first_ticks 0 mesh.nodes) x → Has (candidates mesh) x
is_candidate mesh x h = subst (λ hs. Has hs x) (candidates_are mesh) h

abbrev Comes : Mesh → Happening → Type 0
Comes mesh x = (Has (deliveries_in mesh) x × Before mesh.last x) ⊎ Has (first_ticks 0 mesh.nodes) x

-- ---- what waits happens, after the last happening
pub comes_happens : (mesh : Mesh) → IsSound mesh → (x : Happening) → Comes mesh x → Happens mesh x × Before mesh.last x
comes_happens mesh sound x (inl p) = (candidate_happens mesh x (is_candidate mesh x (has_left (deliveries_in mesh) (first_ticks 0 mesh.nodes) x p.0)), p.1)
comes_happens mesh sound x (inr p) =
    let t = ticks_have 0 mesh.nodes x p in
    let later = (sound.ticked t.offset t.node t.found).to_come in (
      candidate_happens mesh x (is_candidate mesh x (has_right (deliveries_in mesh) (first_ticks 0 mesh.nodes) x p)),
      subst (Before mesh.last) (sym t.is) (subst (λ p. Before mesh.last (tick_at p t.node (suc (ticks_in t.node.log)))) (sym (from_zero t.offset)) later),
    )

comes_from : (mesh : Mesh) (x : Happening) → Before mesh.last x → Has (deliveries_in mesh) x ⊎ Has (first_ticks 0 mesh.nodes) x → Comes mesh x
comes_from mesh x b (inl p) = inl (p, b)
comes_from mesh x b (inr p) = inr p

-- all that happens after the last happening is no earlier than something that waits
pub waits_for : (waiting : List Happening) (mesh : Mesh) → IsSound mesh → AwaitsIn waiting mesh → (x : Happening) → Happens mesh x → Before mesh.last x → (c : Happening) × Has waiting c × AtMost c x
waits_for waiting mesh sound waits x p b =
    let c = covered mesh sound x p b in
    let f = filter_has (is_before mesh.last) (candidates mesh) c.0 c.1 in
    (c.0, (waits c.0).1 (comes_from mesh c.0 (test_before mesh.last c.0 f.0) (has_either (deliveries_in mesh) (first_ticks 0 mesh.nodes) c.0 (subst (λ hs. Has hs c.0) (sym (candidates_are mesh)) f.1))), c.2)

pub none_quiet : (waiting : List Happening) (t : ℕ) (mesh : Mesh) → IsSound mesh → AwaitsIn waiting mesh → IsNoneDue waiting t → IsQuiet t mesh
none_quiet waiting t mesh sound waits none x p b =
    let c = waits_for waiting mesh sound waits x p b in
    let l = none c.0 c.1 in
    let m = at_most_moments c.0 x c.2 in
    omega (arith, l, m)

pub some_not_quiet : (waiting : List Happening) (t : ℕ) (mesh : Mesh) → IsSound mesh → AwaitsIn waiting mesh → IsSomeDue waiting t → IsQuiet t mesh → ⊥
some_not_quiet waiting t mesh sound waits some quiet =
    let w = comes_happens mesh sound some.0 ((waits some.0).0 some.1) in
    let l = quiet some.0 w.0 w.1 in
    let m = some.2 in
    omega (arith, l, m)

-- a tick is no delivery
pub not_link : NodeTick ≡ LinkDelivery → ⊥
not_link e = cc

pub not_lan : NodeTick ≡ LanDelivery → ⊥
not_lan e = cc

-- ---- what is popped
module _ (waiting rest : List Happening) (t : ℕ) (h : Happening) (mesh : Mesh) (sound : IsSound mesh) (waits : AwaitsIn waiting mesh) (popped : IsPopped waiting rest t h) where
  split : (x : Happening) → Has waiting x → (x ≡ h) ⊎ Has rest x
  split x p = popped.leaves.kept x p

  joined : (x : Happening) → Has rest x → Has waiting x
  joined x p = popped.leaves.had x p

  head : Has waiting h
  head = popped.waited

  first_of : (x : Happening) → (x ≡ h) ⊎ Has rest x → AtMost h x
  first_of x (inl e) = inl (sym e)
  first_of x (inr p) = inr (popped.leaves.above x p)

  pub popped_next : IsNext t mesh h
  popped_next =
      let w = comes_happens mesh sound h ((waits h).0 head) in
      record {
        happens = w.0;
        after = w.1;
        within = popped.within;
        first = λ x p b.
            let c = waits_for waiting mesh sound waits x p b in
            at_most_trans h c.0 x (first_of c.0 (split c.0 c.1)) c.2;
      }

  -- the ticks that wait behind it
  abbrev pub others : List Happening
  others = filter (is_before h) (first_ticks 0 mesh.nodes)

  not_head : (x : Happening) → Before h x → (x ≡ h) ⊎ Has rest x → Has rest x
  not_head x b (inl e) = absurd (before_irrefl h (subst (Before h) e b))
  not_head x b (inr p) = p

  rest_to : (x : Happening) → Before h x → Comes mesh x → (Has (deliveries_in mesh) x × Before h x) ⊎ Has others x
  rest_to x b (inl p) = inl (p.0, b)
  rest_to x b (inr p) = inr (has_filter (is_before h) (first_ticks 0 mesh.nodes) x (before_test h x b) p)

  rest_from : (x : Happening) → (Has (deliveries_in mesh) x × Before h x) ⊎ Has others x → Has rest x
  rest_from x (inl p) = not_head x p.1 (split x ((waits x).1 (inl (p.0, before_trans mesh.last h x popped_next.after p.1))))
  rest_from x (inr p) =
      let f = filter_has (is_before h) (first_ticks 0 mesh.nodes) x p in
      not_head x (test_before h x f.0) (split x ((waits x).1 (inr f.1)))

  pub popped_waits : Awaits rest h others mesh.links mesh.frames mesh.puts
  popped_waits x = (λ p. rest_to x (popped.leaves.above x p) ((waits x).0 (joined x p)), rest_from x)

  pub tick_or_later : (x : Happening) → Has (first_ticks 0 mesh.nodes) x → (x ≡ h) ⊎ Before h x
  tick_or_later x p = elim (split x ((waits x).1 (inr p))) as (λ _. (x ≡ h) ⊎ Before h x) [ inl e ↦ inl e | inr r ↦ inr (popped.leaves.above x r) ]

  -- behind a delivery, all ticks wait
  not_tick : (h.class ≡ NodeTick → ⊥) → (x : Happening) → Has (first_ticks 0 mesh.nodes) x → (x ≡ h) ⊎ Before h x → Has others x
  not_tick class x p (inl e) =
      let t = ticks_have 0 mesh.nodes x p in
      absurd (class (sym (ap (λ (y : Happening). y.class) e) ∙ ap (λ (y : Happening). y.class) t.is))
  not_tick class x p (inr b) = has_filter (is_before h) (first_ticks 0 mesh.nodes) x (before_test h x b) p

  pub all_others : (h.class ≡ NodeTick → ⊥) → (x : Happening) → Has others x ↔ Has (first_ticks 0 mesh.nodes) x
  all_others class x = (λ p. (filter_has (is_before h) (first_ticks 0 mesh.nodes) x p).1, λ p. not_tick class x p (tick_or_later x p))

  -- a tick is the first to come of its node
  pub record Ticker : Type 0 where
    pub node : NodeLog
    pub found : slice_get mesh.nodes h.place ≡ Some node
    pub is : h ≡ tick_at h.place node (suc (ticks_in node.log))

  ticker_from : h.class ≡ NodeTick → Comes mesh h → Ticker
  ticker_from class (inl p) = either (has_either (deliveries mesh.links 0 mesh.frames) (lan_deliveries 0 mesh.puts) h p.0)
    where
      either : Has (deliveries mesh.links 0 mesh.frames) h ⊎ Has (lan_deliveries 0 mesh.puts) h → Ticker
      either (inl d) = absurd (not_link (sym class ∙ (deliveries_have mesh.links 0 mesh.frames h d).class_is))
      either (inr d) = absurd (not_lan (sym class ∙ ap (λ (y : Happening). y.class) (lans_have 0 mesh.puts h d).is))
  ticker_from class (inr p) =
      let t = ticks_have 0 mesh.nodes h p in
      let at : h.place ≡ t.offset = ap (λ (y : Happening). y.place) t.is ∙ from_zero t.offset in
      record {
        node = t.node;
        found = ap (slice_get mesh.nodes) at ∙ t.found;
        is = t.is ∙ ap (λ p. tick_at p t.node (suc (ticks_in t.node.log))) (from_zero t.offset ∙ sym at);
      }

  pub ticker_is : h.class ≡ NodeTick → Ticker
  ticker_is class = ticker_from class ((waits h).0 head)

-- ---- behind a tick
tick_is : (place k : ℕ) (a b : NodeLog) → a.made ≡ b.made → ticks_in a.log ≡ k + ticks_in b.log → tick_at place a (suc (ticks_in a.log)) ≡ record { moment = b.made + tick_time * suc (k + ticks_in b.log); class = NodeTick; place = place }
tick_is place k a b made more =
    ap (λ m. record { moment = m + tick_time * suc (ticks_in a.log); class = NodeTick; place = place }) made
    ∙ ap (λ n. record { moment = b.made + tick_time * suc n; class = NodeTick; place = place }) more

at_moment : (place m n : ℕ) → m ≡ n → tick_now place m ≡ tick_now place n
at_moment place m n e = ap (tick_now place) e

module _ (mesh after : Mesh) (h : Happening) (node : NodeLog) (found : slice_get mesh.nodes h.place ≡ Some node) (h_is : h ≡ tick_at h.place node (suc (ticks_in node.log)))
    (were : (place : ℕ) (n : NodeLog) → slice_get after.nodes place ≡ Some n → Was mesh.nodes after.frames (at_place h.place 1 place) place n)
    (count : length after.nodes ≡ length mesh.nodes) (later : (x : Happening) → Has (first_ticks 0 mesh.nodes) x → (x ≡ h) ⊎ Before h x) where
  h_moment : h.moment ≡ node.made + tick_time * suc (ticks_in node.log)
  h_moment = ap (λ (y : Happening). y.moment) h_is

  -- the node's next tick
  next_tick : (place : ℕ) (n : NodeLog) → slice_get after.nodes place ≡ Some n → h.place ≡ place → tick_at place n (suc (ticks_in n.log)) ≡ tick_now h.place (h.moment + tick_time)
  next_tick place n f same =
      let w = were place n f in
      let one : w.node ≡ node = some_one w.node node (sym w.found ∙ ap (slice_get mesh.nodes) (sym same) ∙ found) in
      let extra : at_place h.place 1 place ≡ 1 = ap (λ b. cond b 1 0) (eq-eqb h.place place same) in
      let k = w.grew.ticks ∙ ap (λ e. e + ticks_in w.node.log) extra ∙ ap (λ (m : NodeLog). 1 + ticks_in m.log) one in
      let m = h_moment in
      tick_is place 1 n node (w.grew.made ∙ ap (λ (m : NodeLog). m.made) one) k
      ∙ ap (λ p. record { moment = node.made + tick_time * suc (1 + ticks_in node.log); class = NodeTick; place = p }) (sym same)
      ∙ at_moment h.place (node.made + tick_time * suc (1 + ticks_in node.log)) (h.moment + tick_time) (omega (arith, m))

  -- another node's
  same_tick : (place : ℕ) (n m : NodeLog) → slice_get after.nodes place ≡ Some n → slice_get mesh.nodes place ≡ Some m → (h.place ≡ place → ⊥) → tick_at place n (suc (ticks_in n.log)) ≡ tick_at place m (suc (ticks_in m.log))
  same_tick place n m f fm other =
      let w = were place n f in
      let one : w.node ≡ m = some_one w.node m (sym w.found ∙ fm) in
      let extra : at_place h.place 1 place ≡ 0 = ap (λ b. cond b 1 0) (ne_eqb h.place place other) in
      let none : 0 + ticks_in w.node.log ≡ ticks_in w.node.log = omega arith in
      let k = w.grew.ticks ∙ ap (λ e. e + ticks_in w.node.log) extra ∙ none ∙ ap (λ (x : NodeLog). ticks_in x.log) one in
      ap (λ x. record { moment = x + tick_time * suc (ticks_in n.log); class = NodeTick; place = place }) (w.grew.made ∙ ap (λ (x : NodeLog). x.made) one)
      ∙ ap (λ x. record { moment = m.made + tick_time * suc x; class = NodeTick; place = place }) k

  abbrev Others : List Happening
  Others = filter (is_before h) (first_ticks 0 mesh.nodes)

  tick_there : (i : ℕ) (n : NodeLog) → slice_get after.nodes i ≡ Some n → Has (first_ticks 0 after.nodes) (tick_at i n (suc (ticks_in n.log)))
  tick_there i n f = subst (λ p. Has (first_ticks 0 after.nodes) (tick_at p n (suc (ticks_in n.log)))) (from_zero i) (have_tick 0 after.nodes i n f)

  there : (i : ℕ) (n : NodeLog) → slice_get mesh.nodes i ≡ Some n → (m : NodeLog) × (slice_get after.nodes i ≡ Some m)
  there i n f = got_there after.nodes i (subst (λ k. i < k) (sym count) (slice_get_within mesh.nodes i n f))

  by_place : {X : Type 0} (i j : ℕ) → (i ≡ j → X) → ((i ≡ j → ⊥) → X) → X
  by_place {X = X} i j f k = choose (nat_eq i j) refl
    where
      choose : (b : Bool) → nat_eq i j ≡ b → X
      choose true e = f (eqb-true i j e)
      choose false e = k (λ q. clash (sym e ∙ eq-eqb i j q))
        where
          clash : false ≡ true → ⊥
          clash e = cc

  from_old : (x : Happening) (i : ℕ) → (h.place ≡ i → ⊥) → x.place ≡ i → Has (first_ticks 0 mesh.nodes) x → (x ≡ h) ⊎ Before h x → Has Others x
  from_old x i other at p (inl e) = absurd (other (ap (λ (y : Happening). y.place) (sym e) ∙ at))
  from_old x i other at p (inr b) = has_filter (is_before h) (first_ticks 0 mesh.nodes) x (before_test h x b) p

  tick_to : (x : Happening) → Has (first_ticks 0 after.nodes) x → Has (tick_now h.place (h.moment + tick_time) ∷ Others) x
  tick_to x p =
      let t = ticks_have 0 after.nodes x p in
      let x_is : x ≡ tick_at t.offset t.node (suc (ticks_in t.node.log)) = t.is ∙ ap (λ p. tick_at p t.node (suc (ticks_in t.node.log))) (from_zero t.offset) in
      by_place h.place t.offset
      (λ same. inl (x_is ∙ next_tick t.offset t.node t.found same))
      (λ other.
      let w = were t.offset t.node t.found in
      let old_is : x ≡ tick_at t.offset w.node (suc (ticks_in w.node.log)) = x_is ∙ same_tick t.offset t.node w.node t.found w.found other in
      let old : Has (first_ticks 0 mesh.nodes) x = subst (Has (first_ticks 0 mesh.nodes)) (sym old_is) (subst (λ p. Has (first_ticks 0 mesh.nodes) (tick_at p w.node (suc (ticks_in w.node.log)))) (from_zero t.offset) (have_tick 0 mesh.nodes t.offset w.node w.found)) in
      inr (from_old x t.offset other (ap (λ (y : Happening). y.place) x_is) old (later x old)))

  tick_from : (x : Happening) → Has (tick_now h.place (h.moment + tick_time) ∷ Others) x → Has (first_ticks 0 after.nodes) x
  tick_from x (inl e) =
      let n = there h.place node found in
      subst (Has (first_ticks 0 after.nodes)) (next_tick h.place n.0 n.1 refl ∙ sym e) (tick_there h.place n.0 n.1)
  tick_from x (inr p) =
      let f = filter_has (is_before h) (first_ticks 0 mesh.nodes) x p in
      let t = ticks_have 0 mesh.nodes x f.1 in
      let x_is : x ≡ tick_at t.offset t.node (suc (ticks_in t.node.log)) = t.is ∙ ap (λ p. tick_at p t.node (suc (ticks_in t.node.log))) (from_zero t.offset) in
      let n = there t.offset t.node t.found in
      let other : h.place ≡ t.offset → ⊥ = λ same.
      let one : t.node ≡ node = some_one t.node node (sym t.found ∙ ap (slice_get mesh.nodes) (sym same) ∙ found) in
      let h_too : x ≡ h = x_is ∙ ap (λ p. tick_at p t.node (suc (ticks_in t.node.log))) (sym same) ∙ ap (λ (m : NodeLog). tick_at h.place m (suc (ticks_in m.log))) one ∙ sym h_is in
      before_irrefl h (subst (Before h) h_too (test_before h x f.0)) in
      subst (Has (first_ticks 0 after.nodes)) (same_tick t.offset n.0 t.node n.1 t.found other ∙ sym x_is) (tick_there t.offset n.0 n.1)

  pub ticks_next : (x : Happening) → Has (tick_now h.place (h.moment + tick_time) ∷ Others) x ↔ Has (first_ticks 0 after.nodes) x
  ticks_next x = (tick_from x, tick_to x)
