use Rattle.std.proofs.Common.{◌≡◌, map, take}
use Rattle.mesh_told.specs.Told.{seen_of}
use Rattle.mesh_told.proofs.node_routes.NodeRoutes.see.Given as goal

abbrev pub invariant-loop-row : goal.invariant-loop-row
invariant-loop-row l = record {
  seen : l.self.seen.items ≡ map seen_of (take l.row-index l.rows);
  kept : l.self.next ≡ l.fn.self.next;
}
