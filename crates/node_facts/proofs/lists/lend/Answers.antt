use Rattle.std.proofs.Common.{◌≡◌, ◌∙◌, ◌∷◌, ◌++◌, [], Some, ap, slice_get, rules}
use Rattle.std.proofs.lemmas.List.{map-append}
use Rattle.mesh_messages.specs.LentFacts.{lent_facts}
use Rattle.node_facts.proofs.ListLemmas.{taken_next}
use Rattle.node_facts.proofs.lists.lend.Goals as goal

pub loop-i-preserved : goal.loop-i-preserved
loop-i-preserved c =
    let found : slice_get c.args.list.now c.loop-i.i ≡ Some c.unwrap.result.now = search rules in
    ap lent_facts c.in_ok-push.ensures.items ∙ map-append (λ fact. fact.now) c.loop-i.facts.items (c.unwrap.result ∷ [])
    ∙ ap (λ facts. facts ++ c.unwrap.result.now ∷ []) c.loop-i.invariant
    ∙ taken_next c.args.list.now c.loop-i.i c.unwrap.result.now found
