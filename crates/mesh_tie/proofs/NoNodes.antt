-- A mesh without nodes is reachable under every algorithm: nodes only grow, and a step at a node
-- finds none.
use Rattle.std.proofs.Common.{◌≡◌, ℕ, suc, List, [], ◌∷◌, ◌++◌, slice_get, Some, Ok, ap, subst, ◌∙◌}
use Rattle.mesh_base.specs.declared.address.Mac.{Mac}
use Rattle.mesh_model.specs.Clients.Log.{Given, Tick, LinkFrame, LanFrame, Line}
use Rattle.mesh_model.specs.Net.Due.{ticks_in}
use Rattle.mesh_model.specs.Net.Inputs.{entry_of, given_to}
use Rattle.mesh_model.specs.Net.Limits.{scenario_setup}
use Rattle.mesh_model.specs.Net.Mesh.{NodeLog, Mesh}
use Rattle.mesh_model.specs.Routes.Queries.{Queries}
use Rattle.mesh_tie.specs.Steps.{IsReachable, Steps, begins, frame_comes, goes_on, lan_comes, lan_joins, line_gives, link_joins, node_joins, node_ticks, put_comes, put_reaches, time_passes, routes_told}
use Rattle.mesh_tie.proofs.NodeLists.{got_noted}
use Rattle.mesh_tie.proofs.SentLemmas.{given_is}

none_at : (place : ℕ) (node : NodeLog) (nodes : List NodeLog) → nodes ≡ [] → slice_get nodes place ≡ Some node → ⊥
none_at place node nodes none got = no (subst (λ ns. slice_get ns place ≡ Some node) none got)
  where
    no : slice_get [] place ≡ Some node → ⊥
    no is = cc

not_none : (nodes : List NodeLog) (node : NodeLog) → nodes ++ node ∷ [] ≡ [] → ⊥
not_none [] node is = cc
not_none (first ∷ rest) node is = cc

-- a node that is given something stands there after
given_some : (queries : Mac → Queries) (mesh after : Mesh) (place now root : ℕ) (node : NodeLog) (given : Given) → slice_get mesh.nodes place ≡ Some node
    → given_to (scenario_setup queries) place now root given mesh ≡ Ok after → after.nodes ≡ [] → ⊥
given_some queries mesh after place now root node given found is none =
    let entry = entry_of (scenario_setup queries) node now given in
    let has = given_is (scenario_setup queries) place now root node given mesh after found is in
    none_at place _ after.nodes none (ap (λ ns. slice_get ns place) has.nodes ∙ got_noted mesh.nodes place node entry found)

-- a step to a mesh without nodes is one under every algorithm, from another such mesh
step_anyhow : (q r : Mac → Queries) (mesh after : Mesh) → Steps q mesh after → after.nodes ≡ [] → (mesh.nodes ≡ []) × Steps r mesh after
step_anyhow q r mesh _ (node_joins _ node empty whole fresh) none = absurd (not_none mesh.nodes node none)
step_anyhow q r mesh _ (link_joins _ link) none = (none, link_joins mesh link)
step_anyhow q r mesh after (line_gives _ _ place now node line found may of is) none = absurd (given_some q mesh after place now 0 node (Line line) found is none)
step_anyhow q r mesh after (node_ticks _ _ place now node found may is) none = absurd (given_some q mesh after place now (suc (ticks_in node.log)) node (Tick (suc (ticks_in node.log))) found is none)
step_anyhow q r mesh after (frame_comes _ _ place now number throughput from node frame found may sent whole is) none =
    absurd (given_some q mesh after place now frame.root node (LinkFrame (suc number) from throughput frame.bytes) found is none)
step_anyhow q r mesh _ (lan_joins _ lan) none = (none, lan_joins mesh lan)
step_anyhow q r mesh _ (put_comes _ put frame by is tells) none = (none, put_comes mesh put frame by is tells)
step_anyhow q r mesh _ (put_reaches _ number now put frame found carries) none = (none, put_reaches mesh number now put frame found carries)
step_anyhow q r mesh after (lan_comes _ _ place now number node put found may among is) none = absurd (given_some q mesh after place now 0 node (LanFrame put.bytes) found is none)
step_anyhow q r mesh _ (time_passes _ happening) none = (none, time_passes mesh happening)
step_anyhow q r mesh _ (routes_told _ lines watch) none = (none, routes_told mesh lines watch)

pub reachable_anyhow : (q r : Mac → Queries) (mesh : Mesh) → IsReachable q mesh → mesh.nodes ≡ [] → IsReachable r mesh
reachable_anyhow q r _ (begins watch) none = begins watch
reachable_anyhow q r _ (goes_on mesh after reach step) none =
    let s = step_anyhow q r mesh after step none in
    goes_on mesh after (reachable_anyhow q r mesh reach s.0) s.1
