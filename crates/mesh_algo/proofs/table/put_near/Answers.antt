use Rattle.std.proofs.Common.{◌≡◌, ◌∙◌, ap, cond, sym, subst, true, Some, rules}
use Rattle.std.specs.List.Sorted.{IsStrictlySortedBy}
use Rattle.indexmap.specs.IndexMap.{get}
use Rattle.indexmap.proofs.CallerLemmas.{keys-with_value_at, updates-with_value_at}
use Rattle.mesh_algo.proofs.table.put_near.Goals as goal

pub returns-clause-updated : goal.returns-clause-updated
returns-clause-updated g c =
    λ q.
    let laws = g.met.K.Eq.laws in
    let found : c.stands_at.result ≡ true = search rules in
    let at = c.stands_at.ensures found in
    (updates-with_value_at c.args.table.now c.args.near c.args.value laws c.pair_mut-row.ensures.unique at.0 at.1 at.2).0 q
    ∙ ap (λ b. cond b (Some c.args.value) (get g.K.PartialEq.eq c.args.table.now q)) (sym (laws.congr c.args.key at.0 q at.3))

pub returns-clause-rises : goal.returns-clause-rises
returns-clause-rises g c =
    λ sorted. subst (λ ks. IsStrictlySortedBy g.K.Ord.cmp ks) (sym (keys-with_value_at c.args.table.now c.args.near c.args.value)) sorted
