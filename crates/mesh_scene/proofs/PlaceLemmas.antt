-- Names, addresses and ends of a scene, and those of the state that it stands for.
use Rattle.std.proofs.Common.{◌≡◌, ℕ, zero, suc, ◌+◌, ◌<◌, ◌≤◌, ◌⊎◌, inl, inr, length-append, Bool, true, false, ◌||◌, ◌&&◌, ◌==◌, if◌then◌else◌, List, [], ◌∷◌, ◌++◌, length, map, slice_get, Option, Some, None, is_some, refl, sym, ap, ap₂, ◌∙◌, subst, arith}
use Rattle.std.specs.Prelude.{bytes_eq, nat_lt, not, position, find, option_map}
use Rattle.std.specs.List.{list_any, position_or_len}
use Rattle.std.proofs.lemmas.Bool.{ltb-true}
use Rattle.std.proofs.lemmas.Bool.Decides.{nat_tests}
use Rattle.std.proofs.lemmas.List.{length-map}
use Rattle.std.proofs.lemmas.Slice.Eq.{bytes_eq-Decides}
use Rattle.mesh_base.specs.Names.{NamesGiven, is_lan_name, is_node_name, node_name}
use Rattle.mesh_base.specs.declared.address.Mac.{Mac}
use Rattle.mesh_base.specs.declared.names.NodeName.{NodeName}
use Rattle.mesh_model.specs.declared.line_form.Algorithm.{Algorithm}
use Rattle.mesh_model.specs.Net.Mesh.{NetLan, NodeLog, has_address}
use Rattle.mesh_model.specs.Net.Runs.{leads}
use Rattle.mesh_model.specs.Routes.Queries.{Queries}
use Rattle.mesh_model.specs.Routes.RouteLog.{RouteLog}
use Rattle.mesh_model.specs.Run.State.{State, is_lan_named, is_named, lan_place_of, node_names, place_of}
use Rattle.mesh_scene.specs.SceneStands.{AreApart, SceneStands, ends_of}
use Rattle.mesh_scene.specs.declared.link_ends.LinkEnds.{LinkEnds}
use Rattle.mesh_scene.specs.declared.scene.Scene.{Scene}

-- ---- names

or_len : (name : List ℕ) (nodes : List NodeLog) → position_or_len (is_node_name name) (node_names nodes) ≡ position_or_len (is_named name) nodes
or_len name [] = refl
or_len name (n ∷ ns) = ap (λ (later : ℕ). if not (is_named name n) then 1 + later else 0) (or_len name ns)

same_place : (name : List ℕ) (nodes : List NodeLog) → position (is_node_name name) (node_names nodes) ≡ position (is_named name) nodes
same_place name nodes = ap₂ (λ (at many : ℕ). if nat_lt at many then Some at else None) (or_len name nodes) (length-map nodes (λ (node : NodeLog). record { mac = node.mac; name = node.name }))

-- a name stands at one place in the scene and in the state
pub placed : {A : Type 0} (algorithm : Algorithm) (queries : Mac → Queries) (stand : A → Mac → RouteLog → Type 0) (scene : Scene A) (state : State) (name : List ℕ) → SceneStands algorithm queries stand scene state → position (is_node_name name) scene.names.nodes ≡ place_of state name
placed algorithm queries stand scene state name stands = ap (λ (names : NamesGiven). position (is_node_name name) names.nodes) stands.names_are ∙ same_place name state.mesh.nodes

lan_or_len : (name : List ℕ) (lans : List NetLan) → position_or_len (is_lan_name name) (map (λ (lan : NetLan). lan.name) lans) ≡ position_or_len (is_lan_named name) lans
lan_or_len name [] = refl
lan_or_len name (l ∷ ls) = ap (λ (later : ℕ). if not (is_lan_named name l) then 1 + later else 0) (lan_or_len name ls)

same_lan : (name : List ℕ) (lans : List NetLan) → position (is_lan_name name) (map (λ (lan : NetLan). lan.name) lans) ≡ position (is_lan_named name) lans
same_lan name lans = ap₂ (λ (at many : ℕ). if nat_lt at many then Some at else None) (lan_or_len name lans) (length-map lans (λ (lan : NetLan). lan.name))

-- a LAN's name stands at one place in the scene and in the state
pub lan_placed : {A : Type 0} (algorithm : Algorithm) (queries : Mac → Queries) (stand : A → Mac → RouteLog → Type 0) (scene : Scene A) (state : State) (name : List ℕ) → SceneStands algorithm queries stand scene state → position (is_lan_name name) scene.names.lans ≡ lan_place_of state name
lan_placed algorithm queries stand scene state name stands = ap (λ (names : NamesGiven). position (is_lan_name name) names.lans) stands.names_are ∙ same_lan name state.mesh.lans

if_within : (i at many : ℕ) (b : Bool) → nat_lt at many ≡ b → (if b then Some at else None) ≡ Some i → i < many
if_within i at many true less is = let same : at ≡ i = cc in omega (arith, same, ltb-true at many less)
if_within i at many false less is = cc

-- a name stands within the nodes
pub place_within : (state : State) (name : List ℕ) (i : ℕ) → place_of state name ≡ Some i → i < length state.mesh.nodes
place_within state name i is =
    if_within i (position_or_len (is_named name) state.mesh.nodes) (length state.mesh.nodes) (nat_lt (position_or_len (is_named name) state.mesh.nodes) (length state.mesh.nodes)) refl is

-- a LAN's name stands within the LANs
pub lan_within : (state : State) (name : List ℕ) (i : ℕ) → lan_place_of state name ≡ Some i → i < length state.mesh.lans
lan_within state name i is =
    if_within i (position_or_len (is_lan_named name) state.mesh.lans) (length state.mesh.lans) (nat_lt (position_or_len (is_lan_named name) state.mesh.lans) (length state.mesh.lans)) refl is

-- ---- addresses

pub option_is : {A B : Type 0} (f : A → B) (o : Option A) → is_some (option_map f o) ≡ is_some o
option_is f None = refl
option_is f (Some x) = refl

step : (b : Bool) (name : NodeName) (rest : Option NodeName) (other : Bool) → is_some (option_map (λ (node : NodeName). node.name) rest) ≡ other
    → is_some (option_map (λ (node : NodeName). node.name) (if b then Some name else rest)) ≡ (b || other)
step true name rest other h = refl
step false name rest other h = h

addresses : (mac : Mac) (nodes : List NodeLog) → is_some (node_name (node_names nodes) mac) ≡ list_any (has_address mac) nodes
addresses mac [] = refl
addresses mac (n ∷ ns) =
    step (has_address mac n) (record { mac = n.mac; name = n.name }) (find (λ node. bytes_eq node.mac.0 mac.0) (node_names ns)) (list_any (has_address mac) ns) (addresses mac ns)

-- an address is one of a node where it has a name
pub addressed : {A : Type 0} (algorithm : Algorithm) (queries : Mac → Queries) (stand : A → Mac → RouteLog → Type 0) (scene : Scene A) (state : State) (mac : Mac) → SceneStands algorithm queries stand scene state → is_some (node_name scene.names.nodes mac) ≡ list_any (has_address mac) state.mesh.nodes
addressed algorithm queries stand scene state mac stands = ap (λ (names : NamesGiven). is_some (node_name names.nodes mac)) stands.names_are ∙ addresses mac state.mesh.nodes

-- ---- ends

any_map : {X Y : Type 0} (f : X → Y) (test : Y → Bool) (xs : List X) → list_any test (map f xs) ≡ list_any (λ x. test (f x)) xs
any_map f test [] = refl
any_map f test (x ∷ xs) = ap (λ b. test (f x) || b) (any_map f test xs)

-- ends are those of a link where a link leads so
pub linked : {A : Type 0} (algorithm : Algorithm) (queries : Mac → Queries) (stand : A → Mac → RouteLog → Type 0) (scene : Scene A) (state : State) (from to : ℕ) → SceneStands algorithm queries stand scene state
    → list_any (λ (other : LinkEnds). other.from == from && other.to == to) scene.ends.items ≡ list_any (leads from to) state.mesh.links
linked algorithm queries stand scene state from to stands =
    ap (list_any (λ (other : LinkEnds). other.from == from && other.to == to)) stands.ends_are ∙ any_map ends_of (λ (other : LinkEnds). other.from == from && other.to == to) state.mesh.links

-- ---- lists that grow at their end

pub map_last : {X Y : Type 0} (f : X → Y) (xs : List X) (x : X) → map f (xs ++ x ∷ []) ≡ map f xs ++ f x ∷ []
map_last f [] x = refl
map_last f (y ∷ ys) x = ap (λ zs. f y ∷ zs) (map_last f ys x)

-- ---- the name of a node

by_test : {X : Type 0} (test : X → Bool) (y : X) (ys : List X) (i : ℕ) (x : X) (b : Bool) → test y ≡ b → (if not b then 1 + position_or_len test ys else 0) ≡ i → slice_get (y ∷ ys) i ≡ Some x
    → (slice_get ys (position_or_len test ys) ≡ Some x → test x ≡ true) → test x ≡ true
by_test test y ys i x true passes at found later =
    let first : Some y ≡ Some x = subst (λ k. slice_get (y ∷ ys) k ≡ Some x) (sym at) found in
    let same : y ≡ x = cc in
    ap test (sym same) ∙ passes
by_test test y ys i x false fails at found later =
    let next : 1 + position_or_len test ys ≡ suc (position_or_len test ys) = omega arith in
    later (subst (λ k. slice_get (y ∷ ys) k ≡ Some x) (sym at ∙ next) found)

at_found : {X : Type 0} (test : X → Bool) (xs : List X) (i : ℕ) (x : X) → position_or_len test xs ≡ i → slice_get xs i ≡ Some x → test x ≡ true
at_found test [] i x is found = cc
at_found test (y ∷ ys) i x is found = by_test test y ys i x (test y) refl is found (at_found test ys (position_or_len test ys) x refl)

if_found : (i at many : ℕ) (b : Bool) → (if b then Some at else None) ≡ Some i → at ≡ i
if_found i at many true is = cc
if_found i at many false is = cc

-- the node at the place of a name has that name
pub named_so : (state : State) (name : List ℕ) (place : ℕ) (node : NodeLog) → place_of state name ≡ Some place → slice_get state.mesh.nodes place ≡ Some node → node.name ≡ name
named_so state name place node is found =
    let at = position_or_len (is_named name) state.mesh.nodes in
    (bytes_eq-Decides node.name name).0 (at_found (is_named name) state.mesh.nodes place node
    (if_found place at (length state.mesh.nodes) (nat_lt at (length state.mesh.nodes)) is) found)

-- ---- no two nodes have one name

name_at : (nodes : List NodeLog) (place : ℕ) (node : NodeLog) → slice_get nodes place ≡ Some node → slice_get (node_names nodes) place ≡ Some (record { mac = node.mac; name = node.name })
name_at [] place node found = cc
name_at (n ∷ ns) zero node found = let same : n ≡ node = cc in ap (λ (x : NodeLog). Some (record { mac = x.mac; name = x.name })) same
name_at (n ∷ ns) (suc place) node found = name_at ns place node found

-- the name of a node stands at its place
pub own_place : {A : Type 0} (algorithm : Algorithm) (queries : Mac → Queries) (stand : A → Mac → RouteLog → Type 0) (scene : Scene A) (state : State) (place : ℕ) (node : NodeLog) → SceneStands algorithm queries stand scene state → slice_get state.mesh.nodes place ≡ Some node
    → place_of state node.name ≡ Some place
own_place algorithm queries stand scene state place node stands found =
    sym (placed algorithm queries stand scene state node.name stands)
    ∙ stands.apart place (record { mac = node.mac; name = node.name }) (ap (λ (names : NamesGiven). slice_get names.nodes place) stands.names_are ∙ name_at state.mesh.nodes place node found)

-- a place that is found is found behind one more element
found_front : {X : Type 0} (test : X → Bool) (xs : List X) (y : X) → position_or_len test xs < length xs → position_or_len test (xs ++ y ∷ []) ≡ position_or_len test xs
found_front test [] y low = absurd (omega (arith, low))
found_front {X} test (x ∷ xs) y low = by (found_front test xs y) (test x) low
  where
    by : (position_or_len test xs < length xs → position_or_len test (xs ++ y ∷ []) ≡ position_or_len test xs) → (b : Bool) → (if not b then 1 + position_or_len test xs else 0) < suc (length xs) → (if not b then 1 + position_or_len test (xs ++ y ∷ []) else 0) ≡ (if not b then 1 + position_or_len test xs else 0)
    by rest true below = refl
    by rest false below = ap (λ n. 1 + n) (rest (omega (arith, below)))

-- an element that is found nowhere before is found at the end
found_end : {X : Type 0} (test : X → Bool) (xs : List X) (y : X) → test y ≡ true → length xs ≤ position_or_len test xs → position_or_len test (xs ++ y ∷ []) ≡ length xs
found_end test [] y passes high = ap (λ b. if not b then 1 + 0 else 0) passes
found_end {X} test (x ∷ xs) y passes high = by (found_end test xs y passes) (test x) high
  where
    by : (length xs ≤ position_or_len test xs → position_or_len test (xs ++ y ∷ []) ≡ length xs) → (b : Bool) → suc (length xs) ≤ (if not b then 1 + position_or_len test xs else 0) → (if not b then 1 + position_or_len test (xs ++ y ∷ []) else 0) ≡ suc (length xs)
    by rest true above = absurd (omega (arith, above))
    by rest false above = let later = rest (omega (arith, above)) in omega (arith, later)

within_so : (at many i : ℕ) → at ≡ i → i < many → (if nat_lt at many then Some at else None) ≡ Some i
within_so at many i is low = let less : nat_lt at many ≡ true = grind (arith, nat_tests, is, low) in ap (λ b. if b then Some at else None) less ∙ ap Some is

past_so : (at many : ℕ) (b : Bool) → nat_lt at many ≡ b → (if b then Some at else None) ≡ None → many ≤ at
past_so at many true less is = cc
past_so at many false less is = grind (arith, nat_tests, less)

-- the element at a place behind one more is there before, or is that one
at_or_end : {X : Type 0} (xs : List X) (y z : X) (place : ℕ) → slice_get (xs ++ y ∷ []) place ≡ Some z → (slice_get xs place ≡ Some z) ⊎ ((place ≡ length xs) × (y ≡ z))
at_or_end [] y z zero found = let same : y ≡ z = cc in inr (refl, same)
at_or_end [] y z (suc place) found = cc
at_or_end (x ∷ xs) y z zero found = inl found
at_or_end (x ∷ xs) y z (suc place) found = either (at_or_end xs y z place found)
  where
    either : (slice_get xs place ≡ Some z) ⊎ ((place ≡ length xs) × (y ≡ z)) → (slice_get xs place ≡ Some z) ⊎ ((suc place ≡ suc (length xs)) × (y ≡ z))
    either (inl there) = inl there
    either (inr end) = inr (ap suc end.0, end.1)

length_next : {X : Type 0} (xs : List X) (y : X) → length (xs ++ y ∷ []) ≡ suc (length xs)
length_next xs y = let long = length-append xs (y ∷ []) in omega (arith, long)

-- names stay apart with one more that wasn't there
pub apart_next : (names : List NodeName) (new : NodeName) → AreApart names → position (is_node_name new.name) names ≡ None → AreApart (names ++ new ∷ [])
apart_next names new apart free = λ place node found. either place node (at_or_end names new node place found)
  where
    old : (place : ℕ) (node : NodeName) → position (is_node_name node.name) names ≡ Some place → position (is_node_name node.name) (names ++ new ∷ []) ≡ Some place
    old place node there =
        let test = is_node_name node.name in
        let many = length names in
        let at = if_found place (position_or_len test names) many (nat_lt (position_or_len test names) many) there in
        let low = if_within place (position_or_len test names) many (nat_lt (position_or_len test names) many) refl there in
        within_so (position_or_len test (names ++ new ∷ [])) (length (names ++ new ∷ [])) place
        (found_front test names new (omega (arith, at, low)) ∙ at) (omega (arith, low, length_next names new))

    last : position (is_node_name new.name) (names ++ new ∷ []) ≡ Some (length names)
    last =
        let test = is_node_name new.name in
        let many = length names in
        let past = past_so (position_or_len test names) many (nat_lt (position_or_len test names) many) refl free in
        within_so (position_or_len test (names ++ new ∷ [])) (length (names ++ new ∷ [])) many
        (found_end test names new ((bytes_eq-Decides new.name new.name).1 refl) past) (omega (arith, length_next names new))

    either : (place : ℕ) (node : NodeName) → (slice_get names place ≡ Some node) ⊎ ((place ≡ length names) × (new ≡ node)) → position (is_node_name node.name) (names ++ new ∷ []) ≡ Some place
    either place node (inl there) = old place node (apart place node there)
    either place node (inr end) = subst (λ (n : NodeName). position (is_node_name n.name) (names ++ new ∷ []) ≡ Some place) end.1 (last ∙ ap Some (sym end.0))

-- no names
pub apart_none : AreApart []
apart_none = λ place node found. nothing place node found
  where
    nothing : (place : ℕ) (node : NodeName) → slice_get [] place ≡ Some node → position (is_node_name node.name) [] ≡ Some place
    nothing place node found = cc
