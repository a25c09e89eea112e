-- What a net stands for says of its parts: all that mesh_run takes of the fields of NetStands stands here.
use Rattle.std.proofs.Common.{◌≡◌, ◌∙◌, ℕ, suc, ◌<◌, ◌≤◌, nat_eq, if◌then◌else◌, List, [], ◌∷◌, ◌++◌, length, map, slice_get, Option, Some, inr, refl, sym, subst, ap, ap₂, length-append, arith}
use Rattle.std.specs.List.{list_any}
use Rattle.std.proofs.lemmas.List.{length-map}
use Rattle.mesh_base.specs.declared.address.Mac.{Mac}
use Rattle.mesh_laws.specs.Soundness.{GivesItsBytes, IsSound}
use Rattle.mesh_model.specs.declared.line_form.Algorithm.{Algorithm}
use Rattle.mesh_model.specs.declared.frame_choice.FrameChoice.{FrameChoice}
use Rattle.mesh_model.specs.Net.Limits.{scenario_setup}
use Rattle.mesh_model.specs.Net.Mesh.{Mesh, NetLan, NodeLog, SentFrame, Setup}
use Rattle.mesh_model.specs.Net.Sending.{lan_from}
use Rattle.mesh_model.specs.Routes.Queries.{Queries}
use Rattle.mesh_model.specs.Routes.RouteLog.{RouteLog}
use Rattle.mesh_model.specs.Clients.Log.{Given, Line}
use Rattle.mesh_model.specs.Net.Due.{ticks_by}
use Rattle.node_ground.specs.OwnStands.{newest_moment}
use Rattle.mesh_net.specs.NetStands.{IsNet, NetStands, SeatsStand}
use Rattle.mesh_laws.proofs.Schedule.Steps.{all_effect, delivered_effect, put_joins, step_is, tickless}
use Rattle.mesh_laws.proofs.Schedule.Steps.{lan_joins as joined_effect}
use Rattle.mesh_net.specs.Reached.{IsNewLan, IsOfLine, IsReached, begins, joins, links, lan_joins, lan_comes, all_are_given, is_given, is_delivered, happens, passes}
use Rattle.mesh_net.specs.declared.net.Net.{Net}
use Rattle.mesh_net.specs.declared.seat.Seat.{Seat}
use Rattle.mesh_scene.specs.SceneStands.{IsSomewhere}
use Rattle.mesh_scene.specs.declared.scene.Scene.{Scene}
use Rattle.mesh_net.proofs.MomentLemmas.{is_past}
use Rattle.mesh_net.proofs.ReachedLemmas.{reached}
use Rattle.mesh_net.proofs.ReachedLemmas.{of_line as line_gives}

pub net_sound : {A : Type 0} (queries : Mac → Queries) (stand : A → Mac → RouteLog → Type 0) (net : Net A) (choice : FrameChoice) (clock : ℕ) (mesh : Mesh) → NetStands queries stand net choice clock mesh → IsSound mesh
net_sound queries stand net choice clock mesh stands = (reached queries clock mesh stands.reached).sound

pub net_past : {A : Type 0} (queries : Mac → Queries) (stand : A → Mac → RouteLog → Type 0) (net : Net A) (choice : FrameChoice) (clock : ℕ) (mesh : Mesh) → NetStands queries stand net choice clock mesh → mesh.last.moment ≤ clock
net_past queries stand net choice clock mesh stands = stands.past

pub net_last : {A : Type 0} (queries : Mac → Queries) (stand : A → Mac → RouteLog → Type 0) (net : Net A) (choice : FrameChoice) (clock : ℕ) (mesh : Mesh) → NetStands queries stand net choice clock mesh → net.last ≡ mesh.last
net_last queries stand net choice clock mesh stands = stands.last_is

pub net_clock : {A : Type 0} (queries : Mac → Queries) (stand : A → Mac → RouteLog → Type 0) (net : Net A) (choice : FrameChoice) (clock : ℕ) (mesh : Mesh) → NetStands queries stand net choice clock mesh → net.clock ≡ clock
net_clock queries stand net choice clock mesh stands = stands.clock_is

-- the newest input of a node isn't after the clock
pub net_settled : {A : Type 0} (queries : Mac → Queries) (stand : A → Mac → RouteLog → Type 0) (net : Net A) (choice : FrameChoice) (clock : ℕ) (mesh : Mesh) (place : ℕ) (node : NodeLog) → NetStands queries stand net choice clock mesh → slice_get mesh.nodes place ≡ Some node
    → newest_moment node.log ≤ clock
net_settled queries stand net choice clock mesh place node stands found = is_past (scenario_setup queries) clock mesh place node stands.reached found

-- a scene's net is live
pub live : {A : Type 0} (algorithm : Algorithm) (queries : Mac → Queries) (stand : A → Mac → RouteLog → Type 0) (scene : Scene A) → IsSomewhere algorithm queries stand scene → IsNet queries stand scene.net
live algorithm queries stand scene at = inr (record { choice = at.state.choice; clock = at.state.clock; mesh = at.state.mesh; standing = at.standing.net_is })

-- what a line gives is no tick, and no link frame
pub of_line : (frames : List SentFrame) (given : Given) → IsOfLine given → (ticks_by given ≡ 0) × GivesItsBytes frames given
of_line frames given line = line_gives frames given line

-- ---- two meshes that a net stands for

-- the places of the gateways of each LAN
abbrev gateways_in : List NetLan → List (List ℕ)
gateways_in lans = map (λ (lan : NetLan). lan.gateways) lans

seats_long : {A : Type 0} (queries : Mac → Queries) (stand : A → Mac → RouteLog → Type 0) (seats : List (Seat A)) (nodes : List NodeLog) → SeatsStand queries stand seats nodes → length seats ≡ length nodes
seats_long queries stand [] [] all = refl
seats_long queries stand [] (node ∷ rest) all = absurd all
seats_long queries stand (seat ∷ seats) [] all = absurd all
seats_long queries stand (seat ∷ seats) (node ∷ rest) all = ap suc (seats_long queries stand seats rest all.1)

gateways_told : {A : Type 0} (queries : Mac → Queries) (stand : A → Mac → RouteLog → Type 0) (net : Net A) (choice : FrameChoice) (clock : ℕ) (mesh : Mesh) → NetStands queries stand net choice clock mesh → net.post.lans.items ≡ gateways_in mesh.lans
gateways_told queries stand net choice clock mesh stands = stands.kept.amid.stands.lans

no_more : {X : Type 0} (x : X) (xs : List X) → x ∷ xs ≡ [] → ⊥
no_more x xs e = cc

no_less : {X : Type 0} (x : X) (xs : List X) → [] ≡ x ∷ xs → ⊥
no_less x xs e = cc

heads : {X : Type 0} (x y : X) (xs ys : List X) → x ∷ xs ≡ y ∷ ys → (x ≡ y) × (xs ≡ ys)
heads x y xs ys e = (cc, cc)

-- the LAN of a node is found by the gateways alone
lan_alike : (gateway from : ℕ) (first second : List NetLan) → gateways_in first ≡ gateways_in second → lan_from gateway from first ≡ lan_from gateway from second
lan_alike gateway from [] [] same = refl
lan_alike gateway from [] (lan ∷ rest) same = absurd (no_less lan.gateways (gateways_in rest) same)
lan_alike gateway from (lan ∷ rest) [] same = absurd (no_more lan.gateways (gateways_in rest) same)
lan_alike gateway from (lan ∷ rest) (other ∷ others) same =
    let both = heads lan.gateways other.gateways (gateways_in rest) (gateways_in others) same in
    ap₂ (λ (here : List ℕ) (later : Option ℕ). if list_any (nat_eq gateway) here then Some from else later) both.0 (lan_alike gateway (suc from) rest others both.1)

-- a net stands for meshes with as many LANs
pub lans_alike : {A : Type 0} (queries : Mac → Queries) (stand : A → Mac → RouteLog → Type 0) (net : Net A) (choice other_choice : FrameChoice) (clock other_clock : ℕ) (mesh other : Mesh) → NetStands queries stand net choice clock mesh → NetStands queries stand net other_choice other_clock other
    → length mesh.lans ≡ length other.lans
lans_alike queries stand net choice other_choice clock other_clock mesh other one two =
    sym (length-map mesh.lans (λ (lan : NetLan). lan.gateways))
    ∙ ap length (sym (gateways_told queries stand net choice clock mesh one) ∙ gateways_told queries stand net other_choice other_clock other two)
    ∙ length-map other.lans (λ (lan : NetLan). lan.gateways)

-- and with as many nodes, of which the same are gateways: so a LAN may join each of them
pub new_lan_alike : {A : Type 0} (queries : Mac → Queries) (stand : A → Mac → RouteLog → Type 0) (net : Net A) (choice other_choice : FrameChoice) (clock other_clock : ℕ) (mesh other : Mesh) (gateways : List ℕ) → NetStands queries stand net choice clock mesh → NetStands queries stand net other_choice other_clock other
    → IsNewLan mesh gateways → IsNewLan other gateways
new_lan_alike queries stand net choice other_choice clock other_clock mesh other gateways one two new =
    let same = sym (gateways_told queries stand net choice clock mesh one) ∙ gateways_told queries stand net other_choice other_clock other two in
    let long = seats_long queries stand net.seats.items mesh.nodes one.seats in
    let other_long = seats_long queries stand net.seats.items other.nodes two.seats in
    record {
      some = new.some;
      can = record {
        rise = new.can.rise;
        stand = λ gateway has. let low = new.can.stand gateway has in omega (arith, low, long, other_long);
        free = λ gateway has. sym (lan_alike gateway 0 mesh.lans other.lans same) ∙ new.can.free gateway has;
      };
    }

-- ---- LANs are few

same_few : (old new : List NetLan) → new ≡ old → length old ≤ 16 → length new ≤ 16
same_few old new same few = subst (λ (lans : List NetLan). length lans ≤ 16) (sym same) few

one_more : (lans : List NetLan) (lan : NetLan) (new : List NetLan) → new ≡ lans ++ lan ∷ [] → length lans < 16 → length new ≤ 16
one_more lans lan new is room = let long = length-append lans (lan ∷ []) in subst (λ (all : List NetLan). length all ≤ 16) (sym is) (omega (arith, long, room))

reached_few : (setup : Setup) (clock : ℕ) (mesh : Mesh) → IsReached setup clock mesh → length mesh.lans ≤ 16
reached_few setup _ _ (begins watched) = omega arith
reached_few setup _ _ (joins clock mesh name mac way few) = reached_few setup clock mesh way
reached_few setup _ _ (links clock mesh link way few new) = reached_few setup clock mesh way
reached_few setup _ _ (lan_joins clock mesh after name gateways way few new e) =
    one_more mesh.lans (record { name = name; gateways = gateways }) after.lans (joined_effect setup name gateways clock mesh after e).adds.lans few
reached_few setup _ _ (lan_comes clock mesh after put way by now low e) = same_few mesh.lans after.lans (put_joins setup put mesh after low e).adds.lans (reached_few setup clock mesh way)
reached_few setup _ _ (all_are_given clock mesh after places line way leaves e) =
    same_few mesh.lans after.lans (all_effect setup places clock (Line line) mesh after refl (λ frames. tt) e).adds.lans (reached_few setup clock mesh way)
reached_few setup _ _ (is_given clock mesh after place given way line e) =
    let l = line_gives mesh.frames given line in
    same_few mesh.lans after.lans (tickless setup mesh place clock 0 given after l.0 l.1 e).adds.lans (reached_few setup clock mesh way)
reached_few setup _ _ (is_delivered clock mesh after place way e) = same_few mesh.lans after.lans (delivered_effect setup mesh place clock after e).adds.lans (reached_few setup clock mesh way)
reached_few setup _ _ (happens clock mesh after h way next later within e) = same_few mesh.lans after.lans (step_is setup mesh h after e).adds.lans (reached_few setup clock mesh way)
reached_few setup _ _ (passes clock later mesh way after within quiet) = reached_few setup clock mesh way

-- a net stands for a mesh with few LANs
pub lans_few : {A : Type 0} (queries : Mac → Queries) (stand : A → Mac → RouteLog → Type 0) (net : Net A) (choice : FrameChoice) (clock : ℕ) (mesh : Mesh) → NetStands queries stand net choice clock mesh → length mesh.lans ≤ 16
lans_few queries stand net choice clock mesh stands = reached_few (scenario_setup queries) clock mesh stands.reached
