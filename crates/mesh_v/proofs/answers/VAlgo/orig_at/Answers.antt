use Rattle.std.proofs.Common.{◌∙◌, ap, filter_map, slice_get, sym, rules, tests}
use Rattle.std.specs.Map.{keys_of}
use Rattle.std.proofs.lemmas.Iterator.Adapters.{option_map_id}
use Rattle.std.proofs.lemmas.Iterator.Consumers.{YieldsList-from_filter_map, YieldsList-from_rest, nth_from_yields_List}
use Rattle.mesh_model.specs.Routes.AlgorithmV.{v_life, v_score}
use Rattle.mesh_model.specs.Routes.BestRoute.{orig_row}
use Rattle.mesh_model.specs.Routes.HearingsV.{heard_v}
use Rattle.mesh_model.specs.Routes.Life.{heard_originators}
use Rattle.mesh_algo.proofs.ReaderLemmas.{no_orig_past_end}
use Rattle.mesh_v.proofs.TableLemmas.{orig_rows}
use Rattle.mesh_v.proofs.answers.VAlgo.orig_at.Goals as goal

pub returns-clause-at_place : goal.returns-clause-at_place
returns-clause-at_place c =
    λ me log stands.
    sym (option_map_id c.nth.result)
    ∙ nth_from_yields_List c.nth.result _ c.args.i c.nth.ensures.ran
    (YieldsList-from_filter_map _ (λ o. orig_row (v_score log c.args.now (v_life me log c.args.now o)) c.args.now o (v_life me log c.args.now o)) (YieldsList-from_rest (keys_of c.self.inside.origs.entries) cc)
    c.filter_map.ensures.closure (λ x r q k. search (rules, tests)))
    ∙ ap (λ rows. slice_get rows c.args.i) (ap (λ t. filter_map (λ o. orig_row (v_score log c.args.now (v_life me log c.args.now o)) c.args.now o (v_life me log c.args.now o)) (keys_of t.origs)) c.self.view_is ∙ orig_rows me c.args.self.now log stands c.args.now)

pub returns-clause-past_end : goal.returns-clause-past_end
returns-clause-past_end c =
    λ me log stands.
    no_orig_past_end (filter_map (λ o. orig_row (v_score log c.args.now (v_life me log c.args.now o)) c.args.now o (v_life me log c.args.now o)) (heard_originators (heard_v me log))) c.args.i c.nth.result (returns-clause-at_place c me log stands)
