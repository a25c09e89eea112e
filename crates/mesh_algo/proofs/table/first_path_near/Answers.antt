use Rattle.std.proofs.Common.{◌≡◌, ◌-◌, ◌&&◌, nat_lt, false, slice_get, rules}
use Rattle.mesh_algo.specs.Walk.{is_row_of}
use Rattle.mesh_algo.proofs.WalkLemmas.{back_walk}
use Rattle.mesh_algo.proofs.table.first_path_near.Goals as goal

pub returns : goal.returns
returns g c =
    λ sorted score best.
    let none : (nat_lt 0 c.loop-orig.first && is_row_of c.args.orig (slice_get c.args.paths.now.entries (c.loop-orig.first - 1))) ≡ false = search rules in
    back_walk score c.args.orig best c.args.paths.now.entries c.loop-orig.first sorted c.loop-orig.invariant none
