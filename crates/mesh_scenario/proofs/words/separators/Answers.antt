use Rattle.std.proofs.Common.{rules, tests, ◌∙◌}
use Rattle.std.proofs.lemmas.Iterator.{YieldsList-from_slice}
use Rattle.std.proofs.lemmas.Iterator.Search.{position_from_yields_List}
use Rattle.mesh_scenario.specs.Inner.Taking.{is_in_word}
use Rattle.mesh_scenario.proofs.WordsLemmas.{unwrap_or-position}
use Rattle.mesh_scenario.proofs.words.separators.Goals as goal

pub returns-clause-value : goal.returns-clause-value
returns-clause-value c =
    let bytes = c.args.line.now in
    c.unwrap_or.ensures ∙ unwrap_or-position is_in_word bytes c.position.result
    (position_from_yields_List is_in_word _ _ c.position.result c.position.ensures.ran (YieldsList-from_slice bytes cc)
    (λ x b q k. search (rules, tests)))
