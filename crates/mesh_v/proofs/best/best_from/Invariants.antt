use Rattle.std.proofs.Common.{◌≡◌, None, drop}
use Rattle.mesh_algo.specs.Walk.{walk_front}
use Rattle.mesh_v.specs.Rows.{IsPositive, path_score, up_in}
use Rattle.mesh_v.proofs.best.best_from.Given as goal

abbrev pub invariant-loop-pair : goal.invariant-loop-pair
invariant-loop-pair l =
    (walk_front (path_score (up_in l.now l.origs.entries) l.newest) l.orig l.best l.pair-iterator ≡ walk_front (path_score (up_in l.now l.origs.entries) l.newest) l.orig None (drop l.first l.paths.entries))
    × IsPositive l.best
