use Rattle.std.proofs.Common.{◌≡◌, ◌++◌, flat_map, take}
use Rattle.mesh_model.specs.Loops.Reports.{clear_line}
use Rattle.mesh_bisect.proofs.report_text.put_gone.Given as goal

abbrev pub invariant-loop-route_loop : goal.invariant-loop-route_loop
invariant-loop-route_loop l = l.out.items ≡ l.fn.out.items ++ flat_map (clear_line l.moment) (take l.route_loop-index l.route_loop-items)
