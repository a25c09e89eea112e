use Rattle.std.proofs.Common.{◌∙◌, ap, filter_map, rules, slice_get, sym, tests}
use Rattle.std.proofs.lemmas.Iterator.Adapters.{option_map_id}
use Rattle.std.proofs.lemmas.Iterator.Consumers.{YieldsList-from_filter_map, YieldsList-from_rest, nth_from_yields_List}
use Rattle.mesh_model.specs.Marks.RoamingMarks.{mark_row}
use Rattle.tt_sync.proofs.SyncLemmas.{none_past_end}
use Rattle.tt_sync.proofs.sync.Sync.mark_at.Goals as goal

pub returns-clause-at_place : goal.returns-clause-at_place
returns-clause-at_place c =
    λ made stands.
    sym (option_map_id c.nth.result)
    ∙ nth_from_yields_List c.nth.result _ c.args.i c.nth.ensures.ran
    (YieldsList-from_filter_map _ (mark_row c.args.now) (YieldsList-from_rest c.args.self.now.marks cc)
    c.filter_map.ensures.closure (λ x r q k. search (rules, tests)))
    ∙ ap (λ es. slice_get (filter_map (mark_row c.args.now) es) c.args.i) stands.marks

pub returns-clause-past_end : goal.returns-clause-past_end
returns-clause-past_end c =
    λ made stands. none_past_end _ c.args.i c.nth.result (returns-clause-at_place c made stands)
