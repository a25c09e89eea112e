use Rattle.std.proofs.Common.{◌∙◌, ap, filter, map, slice_get, rules, tests}
use Rattle.std.proofs.lemmas.Iterator.Consumers.{YieldsList-from_filter, YieldsList-from_rest, nth_from_yields_List}
use Rattle.mesh_model.specs.declared.service.FactKey.{FactKey}
use Rattle.mesh_model.specs.declared.service.KeptFact.{KeptFact}
use Rattle.mesh_model.specs.Services.Facts.{is_live_fact}
use Rattle.alfred_core.specs.Facts.{KeptFacts}
use Rattle.alfred_core.proofs.FactLemmas.{rows_kept}
use Rattle.alfred_core.proofs.facts.Facts.live_at.Goals as goal

pub returns : goal.returns
returns c =
    λ me calls stands.
    nth_from_yields_List c.nth.result _ c.args.i c.nth.ensures.ran
    (YieldsList-from_filter _ (is_live_fact c.args.now) (YieldsList-from_rest _ (c.filter.ensures.source ∙ c.values.ensures.rest))
    c.filter.ensures.closure (λ x r q k. search (rules, tests)))
    ∙ ap (λ (facts : KeptFacts). slice_get (filter (is_live_fact c.args.now) (map (λ (e : FactKey × KeptFact). e.1) facts.kept)) c.args.i) c.self.view_is
    ∙ ap (λ rows. slice_get rows c.args.i) (rows_kept c.args.now c.args.self.now me calls stands)
