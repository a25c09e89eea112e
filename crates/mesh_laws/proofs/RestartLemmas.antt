-- What the laws of restarts rest on.
use Rattle.std.proofs.Common.{◌≡◌, ◌∙◌, refl, sym, ap, subst, ℕ, ◌+◌, ◌-◌, ◌<◌, ◌≤◌, Bool, true, false, not, ◌&&◌, cond, List, [], ◌∷◌, find, Option, Some, None, option_map, inl, inr, arith}
use Rattle.std.specs.Prelude.{◌↔◌, nat_lt}
use Rattle.std.proofs.lemmas.Bool.Decides.{nat_tests}
use Rattle.mesh_base.specs.declared.address.Mac.{Mac}
use Rattle.mesh_model.specs.declared.route.Meeting.{Meeting}
use Rattle.mesh_model.specs.Net.Next.{Has}
use Rattle.mesh_model.specs.Routes.Addresses.{same_mac}
use Rattle.mesh_model.specs.Routes.Hearings.{heard, heard_with, hearing}
use Rattle.mesh_model.specs.Routes.HearingsV.{heard_v, heard_with_v, hearing_v, passes_v}
use Rattle.mesh_model.specs.Routes.Life.{HeardOgm, began_wild, life, life_span, may_restart, meeting, of}
use Rattle.mesh_model.specs.Routes.Neighbours.{is_up}
use Rattle.mesh_model.specs.Routes.Numbers.{may_begin, restart_pause}
use Rattle.mesh_model.specs.Routes.Ogm.{Ogm, ogm_of_head, passes}
use Rattle.mesh_model.specs.Routes.Ogm2.{OgmV, ogm2_of_head}
use Rattle.mesh_model.specs.Routes.Quality.{echo_quality}
use Rattle.mesh_model.specs.Routes.RouteLog.{RouteLog, OwnTick, HeadCame}
use Rattle.mesh_laws.specs.RestartLaws.{AreInOrder, HearsInOrder, IsInOrder, OthersAreNeither, RestartIsOfLife, RestartedLately, is_met_wild}

-- ---- order
in_order_later : (early late : ℕ) (hearings : List HeardOgm) → early ≤ late → AreInOrder early hearings → AreInOrder late hearings
in_order_later early late [] le order = tt
in_order_later early late (h ∷ older) le order = let first = order.0 in (omega (arith, first, le), order.1)

has_before : (moment : ℕ) (hearings : List HeardOgm) (r : HeardOgm) → AreInOrder moment hearings → Has hearings r → r.moment ≤ moment
has_before moment [] r order has = absurd has
has_before moment (h ∷ older) r order (inl e) = subst (λ (x : HeardOgm). x.moment ≤ moment) (sym e) order.0
has_before moment (h ∷ older) r order (inr more) = let first = order.0 in let rest = has_before h.moment older r order.1 more in omega (arith, first, rest)

of_in_order : (orig : Mac) (moment : ℕ) (hearings : List HeardOgm) → AreInOrder moment hearings → AreInOrder moment (of orig hearings)
of_in_order orig moment [] order = tt
of_in_order orig moment (h ∷ older) order = go (same_mac h.orig orig) (of_in_order orig h.moment older order.1)
  where
    go : (b : Bool) → AreInOrder h.moment (of orig older) → AreInOrder moment (cond b (h ∷ of orig older) (of orig older))
    go true rest = (order.0, rest)
    go false rest = in_order_later h.moment moment (of orig older) order.0 rest

-- ---- what stands in a life
of_has : (orig : Mac) (hearings : List HeardOgm) (r : HeardOgm) → Has (of orig hearings) r → Has hearings r × (same_mac r.orig orig ≡ true)
of_has orig [] r has = absurd has
of_has orig (h ∷ older) r has = go (same_mac h.orig orig) refl has (of_has orig older r)
  where
    further : Has older r × (same_mac r.orig orig ≡ true) → Has (h ∷ older) r × (same_mac r.orig orig ≡ true)
    further w = (inr w.0, w.1)

    go : (b : Bool) → same_mac h.orig orig ≡ b → Has (cond b (h ∷ of orig older) (of orig older)) r → (Has (of orig older) r → Has older r × (same_mac r.orig orig ≡ true)) → Has (h ∷ older) r × (same_mac r.orig orig ≡ true)
    go true is (inl e) rest = (inl e, ap (λ (x : HeardOgm). same_mac x.orig orig) e ∙ is)
    go true is (inr more) rest = further (rest more)
    go false is has rest = further (rest has)

has_of : (orig : Mac) (hearings : List HeardOgm) (r : HeardOgm) → Has hearings r → same_mac r.orig orig ≡ true → Has (of orig hearings) r
has_of orig [] r has of_it = absurd has
has_of orig (h ∷ older) r has of_it = go (same_mac h.orig orig) refl has (λ more. has_of orig older r more of_it)
  where
    go : (b : Bool) → same_mac h.orig orig ≡ b → Has (h ∷ older) r → (Has older r → Has (of orig older) r) → Has (cond b (h ∷ of orig older) (of orig older)) r
    go true is (inl e) rest = inl e
    go true is (inr more) rest = inr (rest more)
    go false is (inl e) rest = let never : false ≡ true = sym is ∙ ap (λ (x : HeardOgm). same_mac x.orig orig) (sym e) ∙ of_it in cc
    go false is (inr more) rest = rest more

life_has : (moment : ℕ) (hearings : List HeardOgm) (r : HeardOgm) → Has (life moment hearings) r → Has hearings r
life_has moment [] r has = absurd has
life_has moment (h ∷ older) r has = go (nat_lt (moment - h.moment) life_span) h.restart has (life_has h.moment older r)
  where
    go : (young restart : Bool) → Has (cond young (h ∷ cond restart [] (life h.moment older)) []) r → (Has (life h.moment older) r → Has older r) → Has (h ∷ older) r
    go true restart (inl e) rest = inl e
    go true true (inr more) rest = absurd more
    go true false (inr more) rest = inr (rest more)
    go false restart has rest = absurd has

-- a restart with which a life began is one of its hearings
abbrev IsRestartAt : List HeardOgm → ℕ → HeardOgm → Type 0
IsRestartAt alive began r = Has alive r × (r.restart ≡ true) × (r.moment ≡ began)

began_has : (alive : List HeardOgm) (began : ℕ) → began_wild alive ≡ Some began → (r : HeardOgm) × IsRestartAt alive began r
began_has [] began is = cc
began_has (h ∷ older) began is = go h.restart refl is (began_has older began)
  where
    go : (b : Bool) → h.restart ≡ b → option_map (λ (x : HeardOgm). x.moment) (cond b (Some h) (find (λ (x : HeardOgm). x.restart) older)) ≡ Some began → (began_wild older ≡ Some began → (r : HeardOgm) × IsRestartAt older began r) → (r : HeardOgm) × IsRestartAt (h ∷ older) began r
    go true restart is rest = (h, (inl refl, restart, cc))
    go false restart is rest = let w = rest is in (w.0, (inr w.1.0, w.1.1, w.1.2))

-- ---- late restarts
young_life : (now moment heard at : ℕ) → heard ≤ moment → moment ≤ now → at ≤ heard → now < at + restart_pause → nat_lt (moment - heard) life_span ≡ true
young_life now moment heard at a b c d = grind (arith, nat_tests)

pauses : (now heard at : ℕ) → at ≤ heard → now < at + restart_pause → may_begin now (Some heard) ≡ false
pauses now heard at a b = grind (arith, nat_tests)

paused : (now began : ℕ) → may_begin now (Some began) ≡ false → now < began + restart_pause
paused now began is = grind (arith, nat_tests)

-- where a restart came lately, there is no other
restarted_late : (now moment : ℕ) (hearings : List HeardOgm) (r : HeardOgm) → AreInOrder moment hearings → moment ≤ now → Has hearings r → r.restart ≡ true → now < r.moment + restart_pause
    → may_begin now (began_wild (life moment hearings)) ≡ false
restarted_late now moment [] r order le has restart late = absurd has
restarted_late now moment (h ∷ older) r order le has restart late =
    let first = order.0 in
    let before = has_before h.moment (h ∷ older) r (omega arith, order.1) has in
    subst (λ (young : Bool). may_begin now (began_wild (cond young (h ∷ cond h.restart [] (life h.moment older)) [])) ≡ false)
    (sym (young_life now moment h.moment r.moment first le before late))
    (go h.restart refl has (λ more. restarted_late now h.moment older r order.1 (omega (arith, first, le)) more restart late))
  where
    go : (b : Bool) → h.restart ≡ b → Has (h ∷ older) r → (Has older r → may_begin now (began_wild (life h.moment older)) ≡ false)
        → may_begin now (option_map (λ (x : HeardOgm). x.moment) (cond b (Some h) (find (λ (x : HeardOgm). x.restart) (cond b [] (life h.moment older))))) ≡ false
    go true is has rest = pauses now h.moment r.moment (has_before h.moment (h ∷ older) r (omega arith, order.1) has) late
    go false is (inl e) rest = let never : false ≡ true = sym is ∙ ap (λ (x : HeardOgm). x.restart) (sym e) ∙ restart in cc
    go false is (inr more) rest = rest more

-- where there may be none, one came lately
came_lately : (moment : ℕ) (orig : Mac) (hearings : List HeardOgm) → may_restart moment (life moment (of orig hearings)) ≡ false → RestartedLately moment orig hearings
came_lately moment orig hearings is = go (began_wild (life moment (of orig hearings))) refl is
  where
    go : (o : Option ℕ) → began_wild (life moment (of orig hearings)) ≡ o → may_begin moment o ≡ false → RestartedLately moment orig hearings
    go None began is = cc
    go (Some at) began is =
        let w = began_has (life moment (of orig hearings)) at began in
        let v = of_has orig hearings w.0 (life_has moment (of orig hearings) w.0 w.1.0) in
        let late = paused moment at is in
        record { hearing = w.0; among = v.0; of_it = v.1; is_restart = w.1.1; lately = subst (λ (x : ℕ). moment < x + restart_pause) (sym w.1.2) late }

may_not : (moment : ℕ) (orig : Mac) (hearings : List HeardOgm) → AreInOrder moment hearings → RestartedLately moment orig hearings → may_restart moment (life moment (of orig hearings)) ≡ false
may_not moment orig hearings order r =
    restarted_late moment moment (of orig hearings) r.hearing (of_in_order orig moment hearings order) (omega arith) (has_of orig hearings r.hearing r.among r.of_it) r.is_restart r.lately

-- ---- the laws
pub restart_is_of_life : RestartIsOfLife
unfolding meeting
restart_is_of_life moment number orig hearings order wild =
    go (is_met_wild moment number orig hearings) wild (may_restart moment (life moment (of orig hearings))) (may_not moment orig hearings order) (came_lately moment orig hearings)
  where
    go : (w : Bool) → w ≡ true → (m : Bool) → (RestartedLately moment orig hearings → m ≡ false) → (m ≡ false → RestartedLately moment orig hearings)
        → (((w && m) ≡ true) ↔ (RestartedLately moment orig hearings → ⊥)) × (((w && not m) ≡ true) ↔ RestartedLately moment orig hearings)
    go false is m late came = cc
    go true is true late came = ((λ yes r. let never : true ≡ false = late r in cc, λ none. refl), (λ yes. let never : false ≡ true = yes in cc, λ r. let never : true ≡ false = late r in cc))
    go true is false late came = ((λ yes. let never : false ≡ true = yes in cc, λ none. absurd (none (came refl))), (λ yes. came refl, λ r. refl))

pub others_are_neither : OthersAreNeither
unfolding meeting
others_are_neither moment number orig hearings tame = go (is_met_wild moment number orig hearings) tame
  where
    with : Bool → Meeting
    with w = record { late = w && not (may_restart moment (life moment (of orig hearings))); restart = w && may_restart moment (life moment (of orig hearings)) }

    go : (w : Bool) → w ≡ false → with w ≡ with false
    go true is = cc
    go false is = refl

-- ---- what is heard
heard_order : (me : Mac) (moment : ℕ) (log : RouteLog) → IsInOrder moment log → AreInOrder moment (heard me log)
heard_order me moment [] order = tt
heard_order me moment (OwnTick at index ∷ older) order = in_order_later at moment (heard me older) order.0 (heard_order me at older order.1)
heard_order me moment (HeadCame at from throughput head ∷ older) order = go (ogm_of_head head) (heard_order me at older order.1)
  where
    later : AreInOrder at (heard me older) → AreInOrder moment (heard me older)
    later rest = in_order_later at moment (heard me older) order.0 rest

    by : (b : Bool) (m : Ogm) → AreInOrder at (heard me older) → AreInOrder moment (cond b (hearing at from m (heard me older) (echo_quality me from older) ∷ heard me older) (heard me older))
    by true m rest = (order.0, rest)
    by false m rest = later rest

    go : (o : Option Ogm) → AreInOrder at (heard me older) → AreInOrder moment (heard_with me at from o (heard me older) (echo_quality me from older))
    go None rest = later rest
    go (Some m) rest = by (passes me m) m rest

heard_order_v : (me : Mac) (moment : ℕ) (log : RouteLog) → IsInOrder moment log → AreInOrder moment (heard_v me log)
heard_order_v me moment [] order = tt
heard_order_v me moment (OwnTick at index ∷ older) order = in_order_later at moment (heard_v me older) order.0 (heard_order_v me at older order.1)
heard_order_v me moment (HeadCame at from throughput head ∷ older) order = go (ogm2_of_head head) (heard_order_v me at older order.1)
  where
    up : Mac → Bool
    up k = is_up at k older

    later : AreInOrder at (heard_v me older) → AreInOrder moment (heard_v me older)
    later rest = in_order_later at moment (heard_v me older) order.0 rest

    by : (b : Bool) (m : OgmV) → AreInOrder at (heard_v me older) → AreInOrder moment (cond b (hearing_v up at from throughput m (heard_v me older) ∷ heard_v me older) (heard_v me older))
    by true m rest = (order.0, rest)
    by false m rest = later rest

    go : (o : Option OgmV) → AreInOrder at (heard_v me older) → AreInOrder moment (heard_with_v me up at from throughput o (heard_v me older))
    go None rest = later rest
    go (Some m) rest = by (passes_v me (up from) m) m rest

pub hears_in_order : HearsInOrder
hears_in_order me moment log order = (heard_order me moment log order, heard_order_v me moment log order)
