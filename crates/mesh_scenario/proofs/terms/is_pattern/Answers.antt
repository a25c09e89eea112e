use Rattle.std.proofs.Common.{rules, tests, sym, ◌∙◌}
use Rattle.std.proofs.lemmas.Iterator.{YieldsList-from_slice}
use Rattle.std.proofs.lemmas.Iterator.Search.{all_from_yields_List}
use Rattle.mesh_model.specs.Scenario.Terms.{is_mark}
use Rattle.mesh_scenario.proofs.TermsLemmas.{is_pattern-sized}
use Rattle.mesh_scenario.proofs.terms.is_pattern.Goals as goal

pub returns : goal.returns
returns c =
    let word = c.args.word.now in
    all_from_yields_List is_mark _ _ c.all.result c.all.ensures.ran (YieldsList-from_slice word cc)
    (λ x b q k. search (rules, tests))
    ∙ is_pattern-sized word (sym c.is_empty.ensures ∙ c.if-is_empty.false) c.if-word-gt-PATTERN_LIMIT.false
