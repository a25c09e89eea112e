use Rattle.std.proofs.Common.{◌≡◌, ◌++◌, drop, map, take}
use Rattle.mesh_model.specs.Net.Watching.{route_event}
use Rattle.mesh_told.specs.Told.{Grows, entries_told, lines_in}
use Rattle.mesh_told.proofs.node_routes.NodeRoutes.tell_all.Given as goal

abbrev pub invariant-loop-place : goal.invariant-loop-place
invariant-loop-place l = record {
  set : l.self.next.entries ≡ entries_told l.rows (take l.place l.fn.self.next.entries) ++ drop l.place l.fn.self.next.entries;
  told : l.log ≡ l.fn.log ++ map route_event (lines_in l.now l.node l.rows (take l.place l.fn.self.next.entries));
  grew : Grows l.fn.log l.log;
}
