use Rattle.std.proofs.Common.{◌≡◌, ◌++◌, ◌∙◌, [], ap, filter, map, sym, rules, tests}
use Rattle.std.proofs.lemmas.List.{append-nil}
use Rattle.mesh_model.specs.Services.Facts.{is_live_fact}
use Rattle.alfred_core.proofs.FactLemmas.{rows_kept}
use Rattle.alfred_core.proofs.facts.Facts.live.Goals as goal

pub returns : goal.returns
returns c =
    λ me calls stands.
    let none : c.loop-kept.kept-iterator ≡ [] = search (rules, tests) in
    let rows = map (λ kept. kept.now) c.loop-kept.rows.items in
    sym (c.loop-kept.invariant ∙ ap (λ rest. rows ++ filter (is_live_fact c.args.now) rest) none ∙ append-nil rows)
    ∙ rows_kept c.args.now c.args.self.now me calls stands
