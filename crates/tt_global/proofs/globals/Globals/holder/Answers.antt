use Rattle.std.proofs.Common.{◌∙◌, ap, rules, slice_get, sym, tests}
use Rattle.std.proofs.lemmas.Iterator.Adapters.{option_map_id}
use Rattle.std.proofs.lemmas.Iterator.Consumers.{YieldsList-from_filter_map, YieldsList-from_rest, nth_from_yields_List}
use Rattle.tt_global.proofs.KeyLemmas.{none_past_end}
use Rattle.tt_global.proofs.PlaceLemmas.{holder_in, holders_are}
use Rattle.tt_global.proofs.globals.Globals.holder.Goals as goal

pub returns-clause-at_place : goal.returns-clause-at_place
returns-clause-at_place c =
    λ calls stands.
    sym (option_map_id c.nth.result)
    ∙ nth_from_yields_List c.nth.result _ c.args.i c.nth.ensures.ran
    (YieldsList-from_filter_map _ (holder_in c.args.key) (YieldsList-from_rest c.args.self.now cc)
    c.filter_map.ensures.closure (λ x r q k. search (rules, tests)))
    ∙ ap (λ l. slice_get l c.args.i) (holders_are c.args.self.now calls stands c.args.key)

pub returns-clause-past_end : goal.returns-clause-past_end
returns-clause-past_end c =
    λ calls stands. none_past_end _ c.args.i c.nth.result (returns-clause-at_place c calls stands)
