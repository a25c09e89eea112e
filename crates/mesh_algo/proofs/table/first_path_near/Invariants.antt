use Rattle.std.proofs.Common.{◌≡◌, true, slice_get}
use Rattle.mesh_algo.specs.Walk.{is_row_of}
use Rattle.mesh_algo.proofs.table.first_path_near.Given as goal

abbrev pub invariant-loop-orig : goal.invariant-loop-orig
invariant-loop-orig g l = is_row_of l.orig (slice_get l.paths.entries l.first) ≡ true

abbrev pub decreases-loop-orig : goal.decreases-loop-orig
decreases-loop-orig g l = l.first
