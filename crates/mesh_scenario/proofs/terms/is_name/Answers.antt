use Rattle.std.proofs.Common.{rules, tests, arith, ap, ◌∙◌, length, take, drop, ◌-◌}
use Rattle.std.specs.List.{list_all}
use Rattle.std.proofs.lemmas.Iterator.{YieldsList-from_slice}
use Rattle.std.proofs.lemmas.Iterator.Search.{all_from_yields_List}
use Rattle.mesh_model.specs.Scenario.Terms.{is_name_character}
use Rattle.mesh_scenario.proofs.TermsLemmas.{is_name-from_letter}
use Rattle.mesh_scenario.proofs.WordsLemmas.{slice_from}
use Rattle.mesh_scenario.proofs.terms.is_name.Goals as goal

pub returns : goal.returns
returns c =
    let word = c.args.word.now in
    all_from_yields_List {all = take (length word - 1) (drop 1 word)} is_name_character _ _ c.all.result c.all.ensures.ran
    (YieldsList-from_slice _ cc) (λ x b q k. search (rules, tests))
    ∙ ap (list_all is_name_character) (slice_from word 1)
    ∙ is_name-from_letter word (omega arith) (search rules) (omega arith)
