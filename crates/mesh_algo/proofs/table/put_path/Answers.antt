use Rattle.std.proofs.Common.{◌∙◌, ap, cond, sym, subst, Some}
use Rattle.std.specs.List.Sorted.{IsStrictlySortedBy}
use Rattle.std.specs.Map.{keys_of, lookup}
use Rattle.mesh_algo.specs.Pairs.{pair_order, same_pair}
use Rattle.mesh_algo.proofs.PutLemmas.{kept_sorted}
use Rattle.mesh_algo.proofs.table.put_path.Goals as goal

pub returns-clause-updated : goal.returns-clause-updated
returns-clause-updated g c =
    λ key. c.in_ok-put_near.ensures.updated key
    ∙ ap (λ rows. cond (same_pair c.args.pair key) (Some c.args.row) (lookup (same_pair key) rows)) c.drop_paths.ensures.kept

pub returns-clause-rises : goal.returns-clause-rises
returns-clause-rises g c =
    λ sorted. c.in_ok-put_near.ensures.rises (subst (λ rows. IsStrictlySortedBy pair_order (keys_of rows)) (sym c.drop_paths.ensures.kept)
    (kept_sorted c.args.begins c.args.pair.orig c.args.paths.now.entries sorted))
