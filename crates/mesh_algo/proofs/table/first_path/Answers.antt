use Rattle.std.proofs.Common.{◌≡◌, rules, arith, true, false}
use Rattle.std.specs.List.Sorted.{IsPartitionPoint}
use Rattle.std.proofs.lemmas.Fn.{always_returns_same}
use Rattle.mesh_model.specs.Routes.Addresses.{is_smaller}
use Rattle.mesh_algo.specs.declared.pair.Pair.{Pair}
use Rattle.mesh_algo.proofs.WalkLemmas.{front_walk, partitioned}
use Rattle.mesh_algo.proofs.table.first_path.Goals as goal

pub returns : goal.returns
returns g c =
    λ sorted score best.
    let point : IsPartitionPoint (λ (e : Pair × _). is_smaller e.0.orig c.args.orig ≡ true) (λ e. is_smaller e.0.orig c.args.orig ≡ false) c.args.paths.now.entries c.partition_point.result
    = c.partition_point.ensures.partitioned (λ e. is_smaller e.0.orig c.args.orig) (always_returns_same _ _ _ (λ a r f called. search rules)) (partitioned score c.args.orig c.args.paths.now.entries sorted) in
    front_walk score c.args.orig best c.args.paths.now.entries c.partition_point.result sorted (search rules)
    (λ j d lt. point.0 j d (omega arith) lt) (λ j d low lt. point.1 j d low lt)
