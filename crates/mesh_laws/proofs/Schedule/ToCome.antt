-- What is to come stays to come, and what lines add comes later.
use Rattle.std.proofs.Common.{◌≡◌, ℕ, zero, suc, ◌+◌, ◌*◌, ◌<◌, ◌⊎◌, inl, inr, List, [], ◌∷◌, ◌++◌, length, slice_get, Some, refl, sym, ap, ◌∙◌, subst, arith}
use Rattle.std.proofs.lemmas.Option.{slice_get_within}
use Rattle.mesh_model.specs.declared.happening.Class.TheVariants.{NodeTick}
use Rattle.mesh_model.specs.declared.happening.Happening.{Happening}
use Rattle.mesh_model.specs.Net.Lans.{with_lan}
use Rattle.mesh_model.specs.Net.Mesh.{NodeLog, NetLan, NetLink, SentFrame, Mesh, Setup}
use Rattle.mesh_model.specs.Net.Due.{arrivals, arrivals_over, tick_time}
use Rattle.mesh_model.specs.Net.Next.{Has, Happens, delivers, lan_delivers, ticks}
use Rattle.mesh_laws.specs.Soundness.{IsSound}
use Rattle.mesh_laws.proofs.Schedule.Members.{get_last}
use Rattle.mesh_laws.proofs.Schedule.Sends.{Adds}
use Rattle.mesh_laws.proofs.Schedule.Steps.{Was, get_front}

-- an item stands at each place of a list
get_there : {X : Type 0} (xs : List X) (i : ℕ) → i < length xs → (x : X) × (slice_get xs i ≡ Some x)
get_there [] i l = absurd (omega (arith, l))
get_there (x ∷ xs) zero l = (x, refl)
get_there (x ∷ xs) (suc i) l = get_there xs i (omega (arith, l))

-- what happens in a mesh happens in one to which frames were added, and whose nodes are the same
pub stays_to_come : (setup : Setup) (extra : ℕ → ℕ) (now : ℕ) (mesh after : Mesh) (x : Happening) → ((place : ℕ) (node : NodeLog) → slice_get after.nodes place ≡ Some node → Was mesh.nodes after.frames (extra place) place node)
    → length after.nodes ≡ length mesh.nodes → Adds setup now mesh after → Happens mesh x → Happens after x
stays_to_come setup extra now mesh after x nodes count adds (delivers d) = delivers (record {
  class_is = d.class_is;
  frame = d.frame;
  found = subst (λ fs. slice_get fs x.place ≡ Some d.frame) (sym adds.frames) (get_front mesh.frames adds.more x.place d.frame d.found);
  arrives = subst (λ ls. Has (arrivals ls d.frame) x.moment) (sym adds.links) d.arrives;
})
stays_to_come setup extra now mesh after x nodes count adds (lan_delivers d) = lan_delivers (record {
  put = d.put;
  found = subst (λ ps. slice_get ps x.place ≡ Some d.put) (sym adds.puts) (get_front mesh.puts adds.more_puts x.place d.put d.found);
  is = d.is;
})
stays_to_come setup extra now mesh after x nodes count adds (ticks d) =
    let w = slice_get_within mesh.nodes x.place d.node d.found in
    let there = get_there after.nodes x.place (subst (λ n. x.place < n) (sym count) w) in
    let was = nodes x.place there.0 there.1 in
    let same : was.node ≡ d.node = one was.node d.node (sym was.found ∙ d.found) in
    let made : there.0.made ≡ d.node.made = was.grew.made ∙ ap (λ (n : NodeLog). n.made) same in
    ticks (record {
      node = there.0;
      found = there.1;
      index = d.index;
      is = d.is ∙ ap (λ m. record { moment = m + tick_time * suc d.index; class = NodeTick; place = x.place }) (sym made);
    })
  where
    one : (a b : NodeLog) → Some a ≡ Some b → a ≡ b
    one a b e = cc

-- a mesh with one more node
abbrev noded : Mesh → NodeLog → Mesh
noded mesh node = record mesh { nodes = mesh.nodes ++ node ∷ [] }

pub nodes_stay : (mesh : Mesh) (node : NodeLog) (x : Happening) → Happens mesh x → Happens (noded mesh node) x
nodes_stay mesh node x (delivers d) = delivers (record { class_is = d.class_is; frame = d.frame; found = d.found; arrives = d.arrives })
nodes_stay mesh node x (lan_delivers d) = lan_delivers (record { put = d.put; found = d.found; is = d.is })
nodes_stay mesh node x (ticks d) = ticks (record { node = d.node; found = get_front mesh.nodes (node ∷ []) x.place d.node d.found; index = d.index; is = d.is })

pub nodes_add_later : (mesh : Mesh) (node : NodeLog) (x : Happening) → Happens (noded mesh node) x → Happens mesh x ⊎ (node.made < x.moment)
nodes_add_later mesh node x (delivers d) = inl (delivers (record { class_is = d.class_is; frame = d.frame; found = d.found; arrives = d.arrives }))
nodes_add_later mesh node x (lan_delivers d) = inl (lan_delivers (record { put = d.put; found = d.found; is = d.is }))
nodes_add_later mesh node x (ticks d) = either (get_last mesh.nodes node x.place d.node d.found)
  where
    either : (slice_get mesh.nodes x.place ≡ Some d.node) ⊎ (d.node ≡ node) → Happens mesh x ⊎ (node.made < x.moment)
    either (inl found) = inl (ticks (record { node = d.node; found = found; index = d.index; is = d.is }))
    either (inr new) =
        let at : x.moment ≡ d.node.made + tick_time * suc d.index = ap (λ (y : Happening). y.moment) d.is in
        let made : d.node.made ≡ node.made = ap (λ (n : NodeLog). n.made) new in
        inr (omega (arith, at, made))

-- a mesh with one more link
abbrev linked : Mesh → NetLink → Mesh
linked mesh link = record mesh { links = mesh.links ++ link ∷ [] }

front_stays : {X : Type 0} (xs : List X) (y : X) (i : ℕ) → i < length xs → slice_get (xs ++ y ∷ []) i ≡ slice_get xs i
front_stays [] y i l = absurd (omega (arith, l))
front_stays (x ∷ xs) y zero l = refl
front_stays (x ∷ xs) y (suc i) l = front_stays xs y i (omega (arith, l))

-- a frame that was sent arrives as it did before
same_arrivals : (mesh : Mesh) (link : NetLink) (place : ℕ) (frame : SentFrame) → IsSound mesh → slice_get mesh.frames place ≡ Some frame → arrivals (mesh.links ++ link ∷ []) frame ≡ arrivals mesh.links frame
same_arrivals mesh link place frame sound found = ap (λ o. arrivals_over o frame) (front_stays mesh.links link frame.link (sound.on_links place frame found))

pub links_stay : (mesh : Mesh) (link : NetLink) (x : Happening) → IsSound mesh → Happens mesh x → Happens (linked mesh link) x
links_stay mesh link x sound (delivers d) = delivers (record { class_is = d.class_is; frame = d.frame; found = d.found; arrives = subst (λ ms. Has ms x.moment) (sym (same_arrivals mesh link x.place d.frame sound d.found)) d.arrives })
links_stay mesh link x sound (lan_delivers d) = lan_delivers (record { put = d.put; found = d.found; is = d.is })
links_stay mesh link x sound (ticks d) = ticks (record { node = d.node; found = d.found; index = d.index; is = d.is })

pub links_add_nothing : (mesh : Mesh) (link : NetLink) (x : Happening) → IsSound mesh → Happens (linked mesh link) x → Happens mesh x
links_add_nothing mesh link x sound (delivers d) = delivers (record { class_is = d.class_is; frame = d.frame; found = d.found; arrives = subst (λ ms. Has ms x.moment) (same_arrivals mesh link x.place d.frame sound d.found) d.arrives })
links_add_nothing mesh link x sound (lan_delivers d) = lan_delivers (record { put = d.put; found = d.found; is = d.is })
links_add_nothing mesh link x sound (ticks d) = ticks (record { node = d.node; found = d.found; index = d.index; is = d.is })

pub lans_stay : (mesh : Mesh) (lan : NetLan) (x : Happening) → Happens mesh x → Happens (with_lan lan mesh) x
lans_stay mesh lan x (delivers d) = delivers (record { class_is = d.class_is; frame = d.frame; found = d.found; arrives = d.arrives })
lans_stay mesh lan x (lan_delivers d) = lan_delivers (record { put = d.put; found = d.found; is = d.is })
lans_stay mesh lan x (ticks d) = ticks (record { node = d.node; found = d.found; index = d.index; is = d.is })

pub lans_add_nothing : (mesh : Mesh) (lan : NetLan) (x : Happening) → Happens (with_lan lan mesh) x → Happens mesh x
lans_add_nothing mesh lan x (delivers d) = delivers (record { class_is = d.class_is; frame = d.frame; found = d.found; arrives = d.arrives })
lans_add_nothing mesh lan x (lan_delivers d) = lan_delivers (record { put = d.put; found = d.found; is = d.is })
lans_add_nothing mesh lan x (ticks d) = ticks (record { node = d.node; found = d.found; index = d.index; is = d.is })
