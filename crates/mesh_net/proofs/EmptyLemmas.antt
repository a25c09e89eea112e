-- A mesh without nodes that is reached is one at the begin: without a node no link joins, no frame is
-- sent and nothing happens. And nothing is due at the begin, so time passes in it.
use Rattle.std.proofs.Common.{◌≡◌, ◌∙◌, ℕ, ◌≤◌, ◌<◌, inl, Bool, true, false, List, [], ◌∷◌, length, Option, Some, None, is_some, Ok, refl, sym, ap, subst, length-append, arith}
use Rattle.mesh_model.specs.declared.happening.Happening.{Happening}
use Rattle.mesh_model.specs.declared.route_line.RouteLine.{RouteLine}
use Rattle.mesh_model.specs.Net.Due.{next_happening}
use Rattle.mesh_model.specs.Clients.Log.{Given, Line}
use Rattle.mesh_model.specs.Net.Inputs.{all_given, given_to}
use Rattle.mesh_model.specs.Net.Limits.{clock_limit}
use Rattle.mesh_model.specs.Net.Mesh.{Mesh, Setup, begun_mesh}
use Rattle.mesh_model.specs.Net.Next.{IsQuiet}
use Rattle.mesh_model.specs.Net.Runs.{delivered}
use Rattle.mesh_model.specs.Run.Steps.{new_node}
use Rattle.mesh_laws.proofs.Schedule.Added.{empty_sound}
use Rattle.mesh_laws.proofs.Schedule.Due.{due_none_is_quiet}
use Rattle.mesh_laws.proofs.Schedule.Sends.{ok_one}
use Rattle.mesh_laws.proofs.Schedule.Steps.{all_effect, delivered_effect, put_joins, step_is, tickless}
use Rattle.mesh_laws.proofs.Schedule.Steps.{lan_joins as joined_effect}
use Rattle.mesh_net.specs.Reached.{IsNewLan, IsReached, begun_watch, begins, joins, links, lan_joins, lan_comes, all_are_given, is_given, is_delivered, happens, passes}
use Rattle.mesh_net.proofs.ReachedLemmas.{of_line}

-- nothing is due at the begin
pub empty_quiet : (watched : Bool) (t : ℕ) → IsQuiet t (begun_mesh (begun_watch watched))
empty_quiet watched t = due_none_is_quiet t (begun_mesh (begun_watch watched)) (empty_sound (begun_watch watched)) refl

-- so it is reached at every moment
pub empty_reached : (setup : Setup) (watched : Bool) (clock : ℕ) → clock ≤ clock_limit → IsReached setup clock (begun_mesh (begun_watch watched))
empty_reached setup watched clock low = passes 0 clock (begun_mesh (begun_watch watched)) (begins watched) (omega arith) low (empty_quiet watched clock)

none_of : {X : Type 0} (xs : List X) → length xs ≡ 0 → xs ≡ []
none_of [] is = refl
none_of (x ∷ xs) is = absurd (omega (arith, is))

no_some : (h : Happening) → None ≡ Some h → ⊥
no_some h e = cc

-- a LAN has a gateway, and so a node
new_has_node : (mesh : Mesh) (gateways : List ℕ) → IsNewLan mesh gateways → length mesh.nodes ≡ 0 → ⊥
new_has_node mesh [] new none = let some = new.some in omega (arith, some)
new_has_node mesh (gateway ∷ rest) new none = let low = new.can.stand gateway (inl refl) in omega (arith, low, none)

-- no node of the mesh at the begin is given anything
all_none : (setup : Setup) (watch : Option (List RouteLine)) (places : List ℕ) (now : ℕ) (given : Given) (after : Mesh) → all_given setup places now given (begun_mesh watch) ≡ Ok after → after ≡ begun_mesh watch
all_none setup watch [] now given after e = sym (ok_one (begun_mesh watch) after e)
all_none setup watch (place ∷ rest) now given after e = all_none setup watch rest now given after e

-- a mesh at the begin
pub record IsBegun (mesh : Mesh) : Type 0 where
  pub watched : Bool
  pub is : mesh ≡ begun_mesh (begun_watch watched)

-- a mesh that is reached and has no node is one at the begin
begun_without_nodes : (setup : Setup) (clock : ℕ) (mesh : Mesh) → IsReached setup clock mesh → length mesh.nodes ≡ 0 → IsBegun mesh
begun_without_nodes setup _ _ (begins watched) none = record { watched = watched; is = refl }
begun_without_nodes setup _ _ (joins clock mesh name mac way few) none = absurd (omega (arith, none, length-append mesh.nodes (new_node name mac clock ∷ [])))
begun_without_nodes setup _ _ (links clock mesh link way few new) none = let from = new.from in absurd (omega (arith, none, from))
begun_without_nodes setup _ _ (lan_joins clock mesh after name gateways way few new e) none =
    let count = (joined_effect setup name gateways clock mesh after e).count in
    absurd (new_has_node mesh gateways new (omega (arith, none, count)))
begun_without_nodes setup _ _ (lan_comes clock mesh after put way by now low e) none =
    let count = (put_joins setup put mesh after low e).count in
    let before = begun_without_nodes setup clock mesh way (omega (arith, none, count)) in
    let P : Mesh → Type 0 = λ m. put.lan < length m.lans in
    let no_lan : put.lan < 0 = subst P before.is low in
    absurd (omega (arith, no_lan))
begun_without_nodes setup _ _ (all_are_given clock mesh after places line way leaves e) none =
    let count = (all_effect setup places clock (Line line) mesh after refl (λ frames. tt) e).count in
    let before = begun_without_nodes setup clock mesh way (omega (arith, none, count)) in
    let P : Mesh → Type 0 = λ m. all_given setup places clock (Line line) m ≡ Ok after in
    record { watched = before.watched; is = all_none setup (begun_watch before.watched) places clock (Line line) after (subst P before.is e) }
begun_without_nodes setup _ _ (is_given clock mesh after place given way line e) none =
    let l = of_line mesh.frames given line in
    let count = (tickless setup mesh place clock 0 given after l.0 l.1 e).count in
    let before = begun_without_nodes setup clock mesh way (omega (arith, none, count)) in
    let P : Mesh → Type 0 = λ m. given_to setup place clock 0 given m ≡ Ok after in
    record { watched = before.watched; is = sym (ok_one (begun_mesh (begun_watch before.watched)) after (subst P before.is e)) }
begun_without_nodes setup _ _ (is_delivered clock mesh after place way e) none =
    let count = (delivered_effect setup mesh place clock after e).count in
    let before = begun_without_nodes setup clock mesh way (omega (arith, none, count)) in
    let P : Mesh → Type 0 = λ m. delivered setup place clock m ≡ Ok after in
    record { watched = before.watched; is = sym (ok_one (begun_mesh (begun_watch before.watched)) after (subst P before.is e)) }
begun_without_nodes setup _ _ (happens clock mesh after h way next later within e) none =
    let count = (step_is setup mesh h after e).count in
    let before = begun_without_nodes setup clock mesh way (omega (arith, none, count)) in
    let P : Mesh → Type 0 = λ m. next_happening m ≡ Some h in
    absurd (no_some h (subst P before.is next))
begun_without_nodes setup _ _ (passes clock later mesh way on within quiet) none = begun_without_nodes setup clock mesh way none

-- what is watched at the begin tells whether routes are
watch_tells : (watched : Bool) → is_some (begun_watch watched) ≡ watched
watch_tells true = refl
watch_tells false = refl

-- a mesh that is reached and has no node is the one at the begin, watched or not
pub empty_without_nodes : (setup : Setup) (clock : ℕ) (mesh : Mesh) → IsReached setup clock mesh → length mesh.nodes ≡ 0 → mesh ≡ begun_mesh (begun_watch (is_some mesh.watch))
empty_without_nodes setup clock mesh way none =
    let begun = begun_without_nodes setup clock mesh way none in
    let told : is_some mesh.watch ≡ begun.watched = ap (λ (m : Mesh). is_some m.watch) begun.is ∙ watch_tells begun.watched in
    begun.is ∙ ap (λ w. begun_mesh (begun_watch w)) (sym told)
