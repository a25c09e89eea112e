use Rattle.std.proofs.Common.{take}
use Rattle.mesh_told.specs.Told.{HasMet}
use Rattle.mesh_told.proofs.node_routes.NodeRoutes.meet.Given as goal

abbrev pub invariant-loop-row : goal.invariant-loop-row
invariant-loop-row l = HasMet (take l.row-index l.rows) l.fn.self.next.entries l.self.next.entries
