-- That LANs stand behind lines: those that give nodes something, and those by which nodes, links and
-- LANs join.
use Rattle.std.proofs.Common.{◌≡◌, ℕ, zero, suc, ◌+◌, ◌<◌, ◌⊎◌, inl, inr, Bool, true, false, cond, nat_eq, replicate, List, [], ◌∷◌, ◌++◌, length, slice_get, Option, Some, None, option_map, Ok, refl, sym, ap, ap₂, ◌∙◌, subst, arith, length-append}
use Rattle.std.specs.List.{list_any}
use Rattle.std.specs.Option.{option_map_or}
use Rattle.mesh_base.specs.declared.address.Mac.{Mac}
use Rattle.mesh_model.specs.declared.route_line.RouteLine.{RouteLine}
use Rattle.mesh_model.specs.Clients.Lans.{Bridge, LanOf, bridge}
use Rattle.mesh_model.specs.Clients.Log.{Line, LineGiven}
use Rattle.mesh_model.specs.Net.Inputs.{all_given, given_to}
use Rattle.mesh_model.specs.Net.Lans.{attachment, joins_lan, with_lan}
use Rattle.mesh_model.specs.Net.Mesh.{NodeLog, NetLan, NetLink, LanPut, Mesh, Setup, address_at, begun_mesh}
use Rattle.mesh_model.specs.Net.Next.{Has}
use Rattle.mesh_model.specs.Net.Runs.{begin, delivered, going_on, run_to, turn}
use Rattle.mesh_model.specs.Net.Sending.{lan_of, with_put}
use Rattle.mesh_laws.specs.GatewayLaws.{AreGateways, CanJoin, IsNoLan, LansStand, lan_beside}
use Rattle.mesh_laws.proofs.Gateways.Places.{any_has, has_any, lan_found, map_same, new_last, old_stays}
use Rattle.mesh_laws.proofs.Gateways.Renewals.{Renews, all_renew, all_same, given_same, line_quiet}
use Rattle.mesh_laws.proofs.Gateways.Standing.{CameToLan, beside_by, came_nowhere, found_by, told_by, delivered_came, same_addresses, stand_after, turn_stands}
use Rattle.mesh_laws.proofs.Schedule.Members.{one_some}
use Rattle.mesh_laws.proofs.Schedule.Runs.{turned, turns_keep}
use Rattle.mesh_laws.proofs.Schedule.Sends.{lan_low, sends_put}
use Rattle.mesh_laws.proofs.Schedule.Steps.{Effect, all_effect, delivered_effect, lan_joins, no_ticks, put_joins, tickless}

-- ---- inputs

effect_stands : (setup : Setup) (now : ℕ) (mesh after : Mesh) → LansStand mesh → Effect setup no_ticks now mesh after → CameToLan mesh after → LansStand after
effect_stands setup now mesh after stand effect came = stand_after mesh after stand effect.adds.lans effect.names effect.count came

pub inputs_stand : (setup : Setup) (place now root : ℕ) (line : LineGiven) (mesh after : Mesh) → LansStand mesh → IsNoLan line → given_to setup place now root (Line line) mesh ≡ Ok after → LansStand after
inputs_stand setup place now root line mesh after stand plain e =
    effect_stands setup now mesh after stand (tickless setup mesh place now root (Line line) after refl tt e)
    (came_nowhere mesh after (given_same setup place now root (Line line) mesh after (line_quiet now line plain) e))

pub all_stand : (setup : Setup) (places : List ℕ) (now : ℕ) (line : LineGiven) (mesh after : Mesh) → LansStand mesh → IsNoLan line → all_given setup places now (Line line) mesh ≡ Ok after → LansStand after
all_stand setup places now line mesh after stand plain e =
    effect_stands setup now mesh after stand (all_effect setup places now (Line line) mesh after refl (λ fs. tt) e)
    (came_nowhere mesh after (all_same setup places now (Line line) mesh after (line_quiet now line plain) e))

pub deliveries_stand : (setup : Setup) (place now : ℕ) (mesh after : Mesh) → LansStand mesh → delivered setup place now mesh ≡ Ok after → LansStand after
deliveries_stand setup place now mesh after stand e = effect_stands setup now mesh after stand (delivered_effect setup mesh place now after e) (delivered_came setup place now mesh after e)

pub puts_stand : (setup : Setup) (put : LanPut) (mesh after : Mesh) → LansStand mesh → put.lan < length mesh.lans → with_put setup put mesh ≡ Ok after → LansStand after
puts_stand setup put mesh after stand low e =
    let sends = sends_put setup put mesh after low e in
    effect_stands setup put.moment mesh after stand (put_joins setup put mesh after low e)
    (came_nowhere mesh after (λ place node found. (node, subst (λ ns. slice_get ns place ≡ Some node) sends.nodes found, refl)))

pub runs_stand : (setup : Setup) (t : ℕ) (mesh : Mesh) → LansStand mesh → LansStand (run_to setup t mesh).mesh
unfolding going_on
runs_stand setup t mesh stand = turns_keep setup t (λ o. LansStand o.mesh) (λ o s. turn_stands setup t o (turn setup t o) s (turned setup t o)) 82 (begin mesh) stand

-- ---- what joins

pub links_stand : (mesh : Mesh) (link : NetLink) → LansStand mesh → LansStand (record mesh { links = mesh.links ++ link ∷ [] })
links_stand mesh link s = record {
  gateways = λ place lan found. let g = s.gateways place lan found in record { rise = g.rise; stand = g.stand; here = g.here };
  attached = s.attached;
  outside = s.outside;
  agree = s.agree;
}

pub empty_stands : (watch : Option (List RouteLine)) → LansStand (begun_mesh watch)
empty_stands watch = record {
  gateways = λ place lan found. cc;
  attached = λ place node found. cc;
  outside = λ place node found none. cc;
  agree = λ first second a b here there same. cc;
}

-- the last of a list with one more at its end, and where it stands
last_there : {X : Type 0} (xs : List X) (y : X) (i : ℕ) (x : X) → slice_get (xs ++ y ∷ []) i ≡ Some x → (slice_get xs i ≡ Some x) ⊎ ((x ≡ y) × (i ≡ length xs))
last_there [] y zero x e = inr (sym (one_some y x e), refl)
last_there [] y (suc i) x e = cc
last_there (z ∷ xs) y zero x e = inl e
last_there (z ∷ xs) y (suc i) x e = next (last_there xs y i x e)
  where
    next : (slice_get xs i ≡ Some x) ⊎ ((x ≡ y) × (i ≡ length xs)) → (slice_get xs i ≡ Some x) ⊎ ((x ≡ y) × (suc i ≡ suc (length xs)))
    next (inl f) = inl f
    next (inr (same, at)) = inr (same, ap suc at)

-- a node that stands is where it was in a longer list
front_same : (nodes : List NodeLog) (new : NodeLog) (place : ℕ) → place < length nodes → address_at place (nodes ++ new ∷ []) ≡ address_at place nodes
front_same nodes new place low = ap (λ o. option_map_or (λ (n : NodeLog). n.mac) o (record { 0 = replicate 6 0 })) (front nodes new place low)
  where
    front : (xs : List NodeLog) (y : NodeLog) (i : ℕ) → i < length xs → slice_get (xs ++ y ∷ []) i ≡ slice_get xs i
    front [] y i l = absurd (omega (arith, l))
    front (x ∷ xs) y zero l = refl
    front (x ∷ xs) y (suc i) l = front xs y i (omega (arith, l))

-- two ways to tell addresses that agree on the gateways of LANs tell the same of each LAN
told_same : (mesh : Mesh) (f g : ℕ → Mac) → ((at : ℕ) (lan : NetLan) → slice_get mesh.lans at ≡ Some lan → (x : ℕ) → Has lan.gateways x → f x ≡ g x) → (place : ℕ) → beside_by f mesh.lans place ≡ beside_by g mesh.lans place
told_same mesh f g same place = by_lan (lan_of place mesh.lans)
  where
    by_found : (at : ℕ) (o : Option NetLan) → slice_get mesh.lans at ≡ o → option_map (told_by f at) o ≡ option_map (told_by g at) o
    by_found at None found = refl
    by_found at (Some lan) found = ap (λ gs. Some (record { number = suc at; gateways = gs })) (map_same f g lan.gateways (same at lan found))

    by_lan : (o : Option ℕ) → found_by f mesh.lans o ≡ found_by g mesh.lans o
    by_lan None = refl
    by_lan (Some at) = by_found at (slice_get mesh.lans at) refl

none_some : {X : Type 0} (x : X) (o : Option X) → o ≡ None → o ≡ Some x → ⊥
none_some x None a b = cc
none_some x (Some y) a b = cc

-- no LAN has a gateway that doesn't stand
free_past : (mesh : Mesh) → LansStand mesh → (place : ℕ) → length mesh.nodes ≡ place → (o : Option ℕ) → lan_of place mesh.lans ≡ o → o ≡ None
free_past mesh stand place past None e = refl
free_past mesh stand place past (Some at) e =
    absurd (
    let f = lan_found place 0 mesh.lans at e in
    let low = (stand.gateways f.offset f.lan f.found).stand place f.has in
    omega (arith, low, past)
    )

pub nodes_stand : (mesh : Mesh) (new : NodeLog) → LansStand mesh → new.log ≡ [] → LansStand (record mesh { nodes = mesh.nodes ++ new ∷ [] })
nodes_stand mesh new s empty = record {
  gateways = λ place lan found.
      let g = s.gateways place lan found in
      record { rise = g.rise; stand = λ gateway has. let l = g.stand gateway has in subst (λ n. gateway < n) (sym (length-append mesh.nodes (new ∷ []))) (omega (arith, l)); here = g.here };
  attached = λ place node found. attached place node (last_there mesh.nodes new place node found);
  outside = λ place node found none. claims_none place node none (last_there mesh.nodes new place node found);
  agree = λ first second a b here there same. agree first second a b same (last_there mesh.nodes new first a here) (last_there mesh.nodes new second b there);
}
  where
    after : Mesh
    after = record mesh { nodes = mesh.nodes ++ new ∷ [] }

    beside : (place : ℕ) → lan_beside after place ≡ lan_beside mesh place
    beside place = told_same mesh (λ g. address_at g (mesh.nodes ++ new ∷ [])) (λ g. address_at g mesh.nodes)
        (λ at lan found x has. front_same mesh.nodes new x ((s.gateways at lan found).stand x has)) place

    bare : (node : NodeLog) → node ≡ new → bridge node.log ≡ record { lan = None; claims = [] }
    bare node same = ap (λ (n : NodeLog). bridge n.log) same ∙ ap bridge empty

    free : (place : ℕ) → place ≡ length mesh.nodes → lan_of place mesh.lans ≡ None
    free place at = free_past mesh s place (sym at) (lan_of place mesh.lans) refl

    attached : (place : ℕ) (node : NodeLog) → (slice_get mesh.nodes place ≡ Some node) ⊎ ((node ≡ new) × (place ≡ length mesh.nodes)) → (bridge node.log).lan ≡ lan_beside after place
    attached place node (inl old) = s.attached place node old ∙ sym (beside place)
    attached place node (inr (same, at)) =
        ap (λ (b : Bridge). b.lan) (bare node same)
        ∙ sym (ap (found_by (λ g. address_at g (mesh.nodes ++ new ∷ [])) mesh.lans) (free place at))

    claims_none : (place : ℕ) (node : NodeLog) → lan_of place mesh.lans ≡ None → (slice_get mesh.nodes place ≡ Some node) ⊎ ((node ≡ new) × (place ≡ length mesh.nodes)) → (bridge node.log).claims ≡ []
    claims_none place node none (inl old) = s.outside place node old none
    claims_none place node none (inr (same, at)) = ap (λ (b : Bridge). b.claims) (bare node same)

    agree : (first second : ℕ) (a b : NodeLog) → lan_of first mesh.lans ≡ lan_of second mesh.lans → (slice_get mesh.nodes first ≡ Some a) ⊎ ((a ≡ new) × (first ≡ length mesh.nodes))
        → (slice_get mesh.nodes second ≡ Some b) ⊎ ((b ≡ new) × (second ≡ length mesh.nodes)) → (bridge a.log).claims ≡ (bridge b.log).claims
    agree first second a b same (inl old) (inl other) = s.agree first second a b old other same
    agree first second a b same (inl old) (inr (is, at)) = s.outside first a old (same ∙ free second at) ∙ sym (ap (λ (x : Bridge). x.claims) (bare b is))
    agree first second a b same (inr (is, at)) (inl other) = ap (λ (x : Bridge). x.claims) (bare a is) ∙ sym (s.outside second b other (sym same ∙ free first at))
    agree first second a b same (inr (is, at)) (inr (is_too, at_too)) = ap (λ (x : Bridge). x.claims) (bare a is) ∙ sym (ap (λ (x : Bridge). x.claims) (bare b is_too))

-- ---- a LAN that joins

-- a LAN that is found for a node is one of those that stand
low_lan : (p : ℕ) (lans : List NetLan) (x : ℕ) → lan_of p lans ≡ Some x → x < length lans
low_lan p lans x e = let l = lan_low p 0 lans x e in omega (arith, l)

front_lan : (lans : List NetLan) (lan : NetLan) (i : ℕ) → i < length lans → slice_get (lans ++ lan ∷ []) i ≡ slice_get lans i
front_lan [] lan i l = absurd (omega (arith, l))
front_lan (x ∷ xs) lan zero l = refl
front_lan (x ∷ xs) lan (suc i) l = front_lan xs lan i (omega (arith, l))

last_lan : (lans : List NetLan) (lan : NetLan) → slice_get (lans ++ lan ∷ []) (length lans) ≡ Some lan
last_lan [] lan = refl
last_lan (x ∷ xs) lan = last_lan xs lan

zero_plus : (n : ℕ) → 0 + n ≡ n
zero_plus n = omega arith

-- a node that is none of the new gateways has the new LAN nowhere
no_new : (x most : ℕ) (b : Bool) → x < most → Some x ≡ cond b (Some (0 + most)) None → ⊥
no_new x most true low e = let same : x ≡ 0 + most = one_some x (0 + most) e in omega (arith, low, same)
no_new x most false low e = cc

-- nodes of one LAN behind the joining were of one LAN before it
were_one : (lans : List NetLan) (lan : NetLan) (p q : ℕ) (o r : Option ℕ) → lan_of p lans ≡ o → lan_of q lans ≡ r → lan_of p (lans ++ lan ∷ []) ≡ lan_of q (lans ++ lan ∷ []) → lan_of p lans ≡ lan_of q lans
were_one lans lan p q None None e f same = e ∙ sym f
were_one lans lan p q (Some x) (Some y) e f same = e ∙ sym (old_stays p 0 lans lan x e) ∙ same ∙ old_stays q 0 lans lan y f ∙ sym f
were_one lans lan p q (Some x) None e f same =
    absurd (no_new x (length lans) (list_any (nat_eq q) lan.gateways) (low_lan p lans x e) (sym (old_stays p 0 lans lan x e) ∙ same ∙ new_last q 0 lans lan f))
were_one lans lan p q None (Some y) e f same =
    absurd (no_new y (length lans) (list_any (nat_eq p) lan.gateways) (low_lan q lans y f) (sym (old_stays q 0 lans lan y f) ∙ sym same ∙ new_last p 0 lans lan e))

were_none : (lans : List NetLan) (lan : NetLan) (p : ℕ) (o : Option ℕ) → lan_of p lans ≡ o → lan_of p (lans ++ lan ∷ []) ≡ None → lan_of p lans ≡ None
were_none lans lan p None e none = e
were_none lans lan p (Some x) e none = absurd (none_some x (lan_of p (lans ++ lan ∷ [])) none (old_stays p 0 lans lan x e))

claims_kept : (b : Bridge) (l : Option LanOf) (w : Bool) → (cond w (record b { lan = l }) b).claims ≡ b.claims
claims_kept b l true = refl
claims_kept b l false = refl

-- what a node is told behind the joining: its LAN as before, or the new one
told_behind : (mesh : Mesh) (lan : NetLan) (address : ℕ → Mac) (p : ℕ) (before : Option LanOf) (w : Bool) (o : Option ℕ) → list_any (nat_eq p) lan.gateways ≡ w → lan_of p mesh.lans ≡ o
    → (w ≡ true → lan_of p mesh.lans ≡ None) → before ≡ beside_by address mesh.lans p
    → cond w (Some (told_by address (length mesh.lans) lan)) before ≡ beside_by address (mesh.lans ++ lan ∷ []) p
told_behind mesh lan address p before true (Some x) new e free was = absurd (none_some x (lan_of p mesh.lans) (free refl) e)
told_behind mesh lan address p before true None new e free was =
    let at : lan_of p (mesh.lans ++ lan ∷ []) ≡ Some (length mesh.lans) =
    new_last p 0 mesh.lans lan e ∙ ap (λ b. cond b (Some (0 + length mesh.lans)) None) new ∙ ap Some (zero_plus (length mesh.lans)) in
    sym (ap (found_by address (mesh.lans ++ lan ∷ [])) at ∙ ap (option_map (told_by address (length mesh.lans))) (last_lan mesh.lans lan))
told_behind mesh lan address p before false (Some x) new e free was =
    was
    ∙ ap (found_by address mesh.lans) e
    ∙ ap (option_map (told_by address x)) (sym (front_lan mesh.lans lan x (low_lan p mesh.lans x e)))
    ∙ sym (ap (found_by address (mesh.lans ++ lan ∷ [])) (old_stays p 0 mesh.lans lan x e))
told_behind mesh lan address p before false None new e free was =
    was
    ∙ ap (found_by address mesh.lans) e
    ∙ sym (ap (found_by address (mesh.lans ++ lan ∷ [])) (new_last p 0 mesh.lans lan e ∙ ap (λ b. cond b (Some (0 + length mesh.lans)) None) new))

lan_of_cond : (b : Bridge) (l : Option LanOf) (w : Bool) → (cond w (record b { lan = l }) b).lan ≡ cond w l b.lan
lan_of_cond b l true = refl
lan_of_cond b l false = refl

pub lans_stand : (setup : Setup) (name gateways : List ℕ) (now : ℕ) (mesh after : Mesh) → LansStand mesh → CanJoin mesh gateways → joins_lan setup name gateways now mesh ≡ Ok after → LansStand after
lans_stand setup name gateways now mesh after s can e = record {
  gateways = λ place l found. here place l (last_there mesh.lans lan place l (subst (λ ls. slice_get ls place ≡ Some l) lans found));
  attached = λ place node found.
      let w = renew place node found in
      ap (λ (b : Bridge). b.lan) w.2
      ∙ lan_of_cond (bridge w.0.log) (Some (told_by address (length mesh.lans) lan)) (list_any (nat_eq place) gateways)
      ∙ told_behind mesh lan address place (bridge w.0.log).lan (list_any (nat_eq place) gateways) (lan_of place mesh.lans) refl refl
      (λ new. can.free place (any_has place gateways new)) (s.attached place w.0 w.1)
      ∙ sym (ap₂ (λ f ls. beside_by f ls place) (λ i. λ g. same_addresses mid after effect.names g i) lans);
  outside = λ place node found none.
      let w = renew place node found in
      claims place node found ∙ s.outside place w.0 w.1 (were_none mesh.lans lan place (lan_of place mesh.lans) refl (subst (λ ls. lan_of place ls ≡ None) lans none));
  agree = λ first second a b one two same.
      let v = renew first a one in
      let w = renew second b two in
      claims first a one
      ∙ s.agree first second v.0 w.0 v.1 w.1
      (were_one mesh.lans lan first second (lan_of first mesh.lans) (lan_of second mesh.lans) refl refl (subst (λ ls. lan_of first ls ≡ lan_of second ls) lans same))
      ∙ sym (claims second b two);
}
  where
    lan : NetLan
    lan = record { name = name; gateways = gateways }

    mid : Mesh
    mid = with_lan lan mesh

    address : ℕ → Mac
    address = λ g. address_at g mesh.nodes

    effect : Effect setup no_ticks now mid after
    effect = lan_joins setup name gateways now mesh after e

    lans : after.lans ≡ mesh.lans ++ lan ∷ []
    lans = effect.adds.lans

    renew : (place : ℕ) (node : NodeLog) → slice_get after.nodes place ≡ Some node → Renews now (attachment mesh gateways) (list_any (nat_eq place) gateways) mid place node
    renew = all_renew setup gateways now (attachment mesh gateways) mid after can.rise e

    claims : (place : ℕ) (node : NodeLog) → (found : slice_get after.nodes place ≡ Some node) → (bridge node.log).claims ≡ (bridge (renew place node found).0.log).claims
    claims place node found =
        let w = renew place node found in
        ap (λ (b : Bridge). b.claims) w.2 ∙ claims_kept (bridge w.0.log) (Some (told_by address (length mesh.lans) lan)) (list_any (nat_eq place) gateways)

    here : (place : ℕ) (l : NetLan) → (slice_get mesh.lans place ≡ Some l) ⊎ ((l ≡ lan) × (place ≡ length mesh.lans)) → AreGateways after place l.gateways
    here place l (inl old) =
        let g = s.gateways place l old in
        record {
          rise = g.rise;
          stand = λ gateway has. subst (λ n. gateway < n) (sym effect.count) (g.stand gateway has);
          here = λ gateway has. ap (lan_of gateway) lans ∙ old_stays gateway 0 mesh.lans lan place (g.here gateway has);
        }
    here place l (inr (same, at)) = subst (λ (x : NetLan). AreGateways after place x.gateways) (sym same) (record {
      rise = can.rise;
      stand = λ gateway has. subst (λ n. gateway < n) (sym effect.count) (can.stand gateway has);
      here = λ gateway has.
          ap (lan_of gateway) lans
          ∙ new_last gateway 0 mesh.lans lan (can.free gateway has)
          ∙ ap (λ b. cond b (Some (0 + length mesh.lans)) None) (has_any gateway gateways has)
          ∙ ap Some (zero_plus (length mesh.lans) ∙ sym at);
    })
