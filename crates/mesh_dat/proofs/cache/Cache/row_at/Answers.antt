use Rattle.std.proofs.Common.{◌∙◌, ap, slice_get, sym, rules, tests}
use Rattle.std.proofs.lemmas.Iterator.Adapters.{option_map_id}
use Rattle.std.proofs.lemmas.Iterator.Consumers.{YieldsList-from_filter_map, YieldsList-from_rest, nth_from_yields_List}
use Rattle.mesh_model.specs.Services.ArpTable.{pairs_at}
use Rattle.mesh_dat.proofs.CacheLemmas.{kept_row, none_past_end, rows_kept}
use Rattle.mesh_dat.proofs.cache.Cache.row_at.Goals as goal

pub returns-clause-at_place : goal.returns-clause-at_place
returns-clause-at_place c =
    λ learned stands.
    sym (option_map_id c.nth.result)
    ∙ nth_from_yields_List c.nth.result _ c.args.i c.nth.ensures.ran
    (YieldsList-from_filter_map _ (λ e. kept_row c.args.now e.0 e.1) (YieldsList-from_rest c.args.self.now cc)
    c.filter_map.ensures.closure (λ x r q k. search (rules, tests)))
    ∙ ap (λ rows. slice_get rows c.args.i) (rows_kept c.args.self.now learned c.args.now stands)

pub returns-clause-past_end : goal.returns-clause-past_end
returns-clause-past_end c =
    λ learned stands.
    none_past_end (pairs_at learned c.args.now) c.args.i c.nth.result (returns-clause-at_place c learned stands)
