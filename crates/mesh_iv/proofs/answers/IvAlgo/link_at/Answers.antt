use Rattle.std.proofs.Common.{◌∙◌, ap, filter_map, slice_get, sym, rules, tests}
use Rattle.std.specs.Map.{keys_of}
use Rattle.std.proofs.lemmas.Iterator.Adapters.{option_map_id}
use Rattle.std.proofs.lemmas.Iterator.Consumers.{YieldsList-from_filter_map, YieldsList-from_rest, nth_from_yields_List}
use Rattle.mesh_model.specs.Routes.AlgorithmIv.{iv_link}
use Rattle.mesh_model.specs.Routes.Hearings.{heard}
use Rattle.mesh_model.specs.Routes.Life.{heard_originators}
use Rattle.mesh_algo.proofs.ReaderLemmas.{no_link_past_end}
use Rattle.mesh_iv.proofs.TableLemmas.{keys_are}
use Rattle.mesh_iv.proofs.answers.IvAlgo.link_at.Goals as goal

pub returns-clause-at_place : goal.returns-clause-at_place
returns-clause-at_place c =
    λ me log stands.
    sym (option_map_id c.nth.result)
    ∙ nth_from_yields_List c.nth.result _ c.args.i c.nth.ensures.ran
    (YieldsList-from_filter_map _ (iv_link me log c.args.now) (YieldsList-from_rest (keys_of c.self.inside.origs.entries) cc)
    c.filter_map.ensures.closure (λ x r q k. search (rules, tests)))
    ∙ ap (λ keys. slice_get (filter_map (iv_link me log c.args.now) keys) c.args.i) (keys_are me c.args.self.now log c.self.inside.origs.entries stands (ap (λ t. t.lives) c.self.view_is))

pub returns-clause-past_end : goal.returns-clause-past_end
returns-clause-past_end c =
    λ me log stands.
    no_link_past_end (filter_map (iv_link me log c.args.now) (heard_originators (heard me log))) c.args.i c.nth.result (returns-clause-at_place c me log stands)
