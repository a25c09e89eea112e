-- What holds of every mesh that is reached, and of each of its steps.
use Rattle.mesh_base.specs.declared.address.Mac.{Mac}
use Rattle.mesh_model.specs.Net.Mesh.{Mesh}
use Rattle.mesh_model.specs.Routes.Queries.{Queries}
use Rattle.mesh_laws.specs.Machine.Moves.{Reaches}
use Rattle.mesh_laws.specs.Machine.World.{World, start}
use Rattle.mesh_tie.specs.Steps.{IsReachable, Steps, goes_on}
use Rattle.mesh_tie.specs.Tie.{IsTied}
use Rattle.mesh_tie.specs.TieLaws.{AllKeep}
use Rattle.mesh_tie.proofs.CarriedClients.{puts_bring}
use Rattle.mesh_tie.proofs.FitLemmas.{commits_always_fit}
use Rattle.mesh_tie.proofs.MeshSteps.{Reached, reached_by, step_tied}

pub reached : (queries : Mac → Queries) → AllKeep queries → (mesh : Mesh) → IsReachable queries mesh → Reached queries mesh
reached queries keep mesh r = reached_by queries keep (commits_always_fit queries keep) (puts_bring queries keep) mesh r

pub reached_tied : (queries : Mac → Queries) → AllKeep queries → (mesh : Mesh) → IsReachable queries mesh → (orig : Mac) → (w : World) × Reaches start w × IsTied queries orig mesh w
reached_tied queries keep mesh r orig = (reached queries keep mesh r).ties orig

pub step_moves : (queries : Mac → Queries) → AllKeep queries → (mesh after : Mesh) → IsReachable queries mesh → Steps queries mesh after → (orig : Mac) (world : World) → Reaches start world → IsTied queries orig mesh world
    → (next : World) × Reaches world next × IsTied queries orig after next
step_moves queries keep mesh after r s orig w base tied =
    let before = reached queries keep mesh r in
    let next = step_tied queries mesh after keep before.holds (commits_always_fit queries keep after (goes_on mesh after r s)) s orig w base tied in
    (next.world, next.path, next.tied)
