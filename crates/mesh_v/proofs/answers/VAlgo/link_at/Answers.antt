use Rattle.std.proofs.Common.{◌∙◌, ap, filter_map, slice_get, sym, rules, tests}
use Rattle.std.specs.Map.{keys_of}
use Rattle.std.proofs.lemmas.Iterator.Adapters.{option_map_id}
use Rattle.std.proofs.lemmas.Iterator.Consumers.{YieldsList-from_filter_map, YieldsList-from_rest, nth_from_yields_List}
use Rattle.mesh_model.specs.Routes.Neighbours.{elp_senders, last_elp, row_by_elp}
use Rattle.mesh_algo.proofs.ReaderLemmas.{no_link_past_end}
use Rattle.mesh_v.proofs.TableLemmas.{link_rows}
use Rattle.mesh_v.proofs.answers.VAlgo.link_at.Goals as goal

pub returns-clause-at_place : goal.returns-clause-at_place
returns-clause-at_place c =
    λ me log stands.
    sym (option_map_id c.nth.result)
    ∙ nth_from_yields_List c.nth.result _ c.args.i c.nth.ensures.ran
    (YieldsList-from_filter_map _ (λ k. row_by_elp c.args.now k (last_elp k log)) (YieldsList-from_rest (keys_of c.self.inside.origs.entries) cc)
    c.filter_map.ensures.closure (λ x r q k. search (rules, tests)))
    ∙ ap (λ rows. slice_get rows c.args.i) (ap (λ t. filter_map (λ k. row_by_elp c.args.now k (last_elp k log)) (keys_of t.origs)) c.self.view_is ∙ link_rows me c.args.self.now log stands c.args.now)

pub returns-clause-past_end : goal.returns-clause-past_end
returns-clause-past_end c =
    λ me log stands.
    no_link_past_end (filter_map (λ k. row_by_elp c.args.now k (last_elp k log)) (elp_senders log)) c.args.i c.nth.result (returns-clause-at_place c me log stands)
