use Rattle.std.proofs.Common.{◌≡◌, sym, subst, rules}
use Rattle.std.specs.List.Sorted.{IsStrictlySortedBy}
use Rattle.std.specs.Map.{keys_of}
use Rattle.mesh_algo.proofs.KeyOrders.{strict_from, sorted_from_strict}
use Rattle.mesh_algo.proofs.table.put.Goals as goal

pub returns-in_ok-insert_sorted-in-None-clause-rises :
    goal.returns-in_ok-insert_sorted-in-None-clause-rises
returns-in_ok-insert_sorted-in-None-clause-rises g c =
    λ sorted.
    let same : c.get_mut.follows.lender-at-none.entries ≡ c.args.table.now.entries = search rules in
    strict_from g.met.K.Ord.total g.met.K.Ord.matches_eq _
    (c.in_ok-insert_sorted-in-None.ensures.sorted (sorted_from_strict g.met.K.Ord.total _ (subst (λ es. IsStrictlySortedBy g.K.Ord.cmp (keys_of es)) (sym same) sorted)))
    c.in_ok-insert_sorted-in-None.ensures.unique
