use Rattle.std.proofs.Common.{◌≡◌, map, take}
use Rattle.mesh_told.specs.Told.{seen_of}
use Rattle.mesh_told.proofs.node_routes.NodeRoutes.is_seen.Given as goal

abbrev pub invariant-loop-place : goal.invariant-loop-place
invariant-loop-place l = take l.place l.self.seen.items ≡ map seen_of (take l.place l.rows)
