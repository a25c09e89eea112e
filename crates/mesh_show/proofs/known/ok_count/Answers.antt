use Rattle.std.proofs.Common.{rules, tests, ◌∙◌, ap}
use Rattle.std.proofs.lemmas.Iterator.{YieldsList-from_slice}
use Rattle.std.proofs.lemmas.Iterator.Consumers.{YieldsList-from_filter, count_from_yields_List}
use Rattle.std.proofs.lemmas.List.Sums.{length-filter}
use Rattle.std.specs.List.{count_by}
use Rattle.mesh_model.specs.declared.table_row.GlobalRow.{GlobalRow}
use Rattle.mesh_model.specs.Knowledge.Steps.{knowledge}
use Rattle.mesh_show.proofs.KnownLemmas.{ok-parts}
use Rattle.mesh_show.proofs.known.ok_count.Goals as goal

pub returns : goal.returns
returns g c = λ me log stands.
    let known = knowledge (g.A.Algo.queries me) me log in
    let rows = c.in_ok-rows.ensures me known (c.algo.ensures me log stands) (c.globals.ensures me log stands) in
    let counted = count_from_yields_List c.filter.result c.count.result c.count.ensures.ran
    (YieldsList-from_filter {s = c.filter.result} _ (λ (row : GlobalRow). row.ok) (YieldsList-from_slice c.deref.result.now cc) c.filter.ensures.closure (λ x b q k. search (rules, tests))) in
    counted ∙ length-filter (λ (row : GlobalRow). row.ok) c.deref.result.now ∙ ap (count_by (λ (row : GlobalRow). row.ok)) c.deref.ensures.value
    ∙ ok-parts (g.A.Algo.queries me) known c.args.now c.in_ok-rows.rows.items rows
