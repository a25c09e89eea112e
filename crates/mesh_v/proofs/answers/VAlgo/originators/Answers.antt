use Rattle.std.proofs.Common.{◌∙◌, ap, filter_map, rules, tests}
use Rattle.std.specs.Map.{keys_of}
use Rattle.std.proofs.lemmas.Iterator.{items_from_collect}
use Rattle.std.proofs.lemmas.Iterator.Consumers.{YieldsList-from_filter_map, YieldsList-from_rest}
use Rattle.std.proofs.lemmas.Result.{IfOk-at_ok}
use Rattle.mesh_model.specs.Routes.AlgorithmV.{v_life, v_score}
use Rattle.mesh_model.specs.Routes.BestRoute.{orig_row}
use Rattle.mesh_v.proofs.TableLemmas.{orig_rows}
use Rattle.mesh_v.proofs.answers.VAlgo.originators.Goals as goal

pub returns : goal.returns
returns c =
    λ me log stands.
    IfOk-at_ok _ c.in_ok-rows.was (items_from_collect c.collect.result c.collect.ensures.ran
    (YieldsList-from_filter_map _ (λ o. orig_row (v_score log c.args.now (v_life me log c.args.now o)) c.args.now o (v_life me log c.args.now o)) (YieldsList-from_rest (keys_of c.self.inside.origs.entries) cc)
    c.filter_map.ensures.closure (λ x r q k. search (rules, tests))))
    ∙ (ap (λ t. filter_map (λ o. orig_row (v_score log c.args.now (v_life me log c.args.now o)) c.args.now o (v_life me log c.args.now o)) (keys_of t.origs)) c.self.view_is ∙ orig_rows me c.args.self.now log stands c.args.now)
