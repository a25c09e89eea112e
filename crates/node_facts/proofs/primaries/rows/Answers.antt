use Rattle.std.proofs.Common.{◌≡◌, ◌∙◌, ap, map, rules, sym}
use Rattle.node_facts.specs.PrimaryRows.{row_at}
use Rattle.node_facts.proofs.PrimaryLemmas.{rows_are}
use Rattle.node_facts.proofs.primaries.rows.Goals as goal

pub loop-primary-init : goal.loop-primary-init
loop-primary-init g c = λ me known stands.
    let q = g.A.Algo.queries me in
    let kept = c.args.kept.now.services.store.primaries in
    let walk : c.into_iter-primary-iterator.result ≡ kept = search rules in
    rw c.new-rows.ensures.items (sym (rows_are q known c.args.now kept stands.services.store.primaries) ∙ ap (map (λ e. row_at q known c.args.now e.0 e.1)) (sym walk))
