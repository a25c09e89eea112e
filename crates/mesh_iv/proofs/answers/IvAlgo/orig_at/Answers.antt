use Rattle.std.proofs.Common.{◌∙◌, ap, filter_map, slice_get, sym, rules, tests}
use Rattle.std.specs.Map.{keys_of}
use Rattle.std.proofs.lemmas.Iterator.Adapters.{option_map_id}
use Rattle.std.proofs.lemmas.Iterator.Consumers.{YieldsList-from_filter_map, YieldsList-from_rest, nth_from_yields_List}
use Rattle.mesh_model.specs.Routes.AlgorithmIv.{iv_life}
use Rattle.mesh_model.specs.Routes.BestRoute.{orig_row}
use Rattle.mesh_model.specs.Routes.Quality.{average_quality}
use Rattle.mesh_model.specs.Routes.Hearings.{heard}
use Rattle.mesh_model.specs.Routes.Life.{heard_originators}
use Rattle.mesh_algo.proofs.ReaderLemmas.{no_orig_past_end}
use Rattle.mesh_iv.proofs.TableLemmas.{keys_are}
use Rattle.mesh_iv.proofs.answers.IvAlgo.orig_at.Goals as goal

pub returns-clause-at_place : goal.returns-clause-at_place
returns-clause-at_place c =
    λ me log stands.
    sym (option_map_id c.nth.result)
    ∙ nth_from_yields_List c.nth.result _ c.args.i c.nth.ensures.ran
    (YieldsList-from_filter_map _ (λ o. orig_row (average_quality (iv_life me log c.args.now o)) c.args.now o (iv_life me log c.args.now o)) (YieldsList-from_rest (keys_of c.self.inside.origs.entries) cc)
    c.filter_map.ensures.closure (λ x r q k. search (rules, tests)))
    ∙ ap (λ keys. slice_get (filter_map (λ o. orig_row (average_quality (iv_life me log c.args.now o)) c.args.now o (iv_life me log c.args.now o)) keys) c.args.i) (keys_are me c.args.self.now log c.self.inside.origs.entries stands (ap (λ t. t.lives) c.self.view_is))

pub returns-clause-past_end : goal.returns-clause-past_end
returns-clause-past_end c =
    λ me log stands.
    no_orig_past_end (filter_map (λ o. orig_row (average_quality (iv_life me log c.args.now o)) c.args.now o (iv_life me log c.args.now o)) (heard_originators (heard me log))) c.args.i c.nth.result (returns-clause-at_place c me log stands)
