use Rattle.std.specs.Char.{is_ascii_digit}
use Rattle.std.proofs.Common.{rules, tests, arith, ap, sym, ◌∙◌, take_all}
use Rattle.std.specs.Prelude.{Some, option_map}
use Rattle.std.proofs.lemmas.Iterator.{YieldsList-from_slice}
use Rattle.std.proofs.lemmas.Iterator.Search.{all_from_yields_List}
use Rattle.mesh_model.specs.Scenario.Terms.{digits_value}
use Rattle.mesh_model.specs.Scenario.Fields.{kept_number}
use Rattle.mesh_scenario.proofs.TermsLemmas.{number_of-digits, number_of-empty, number_of-other, digits_value-more}
use Rattle.mesh_scenario.proofs.terms.number.Goals as goal
use Rattle.mesh_scenario.proofs.terms.number.Goals.{then-is_empty-via-then-is_empty, then-is_empty-via-else-is_empty+then-not-all}

pub returns-then-is_empty : goal.returns-then-is_empty
returns-then-is_empty c =
    let word = c.args.word.now in
    sym (ap (option_map kept_number) (elim c.then-is_empty.branch [
      | then-is_empty-via-then-is_empty w ↦ number_of-empty word (sym c.is_empty.ensures ∙ w.if-is_empty.true)
      | then-is_empty-via-else-is_empty+then-not-all w ↦ number_of-other word
          (sym (all_from_yields_List is_ascii_digit _ _ w.all.result w.all.ensures.ran (YieldsList-from_slice word cc)
          (λ x b q k. search (rules, tests))) ∙ w.if-not-all.true)
    ]))

pub returns : goal.returns
returns c =
    let word = c.args.word.now in
    let all = all_from_yields_List is_ascii_digit _ _ c.all.result c.all.ensures.ran (YieldsList-from_slice word cc)
    (λ x b q k. search (rules, tests)) in
    let is = number_of-digits word (sym c.is_empty.ensures ∙ c.if-is_empty.false) (sym all ∙ c.if-not-all.false) in
    ap (λ n. Some n) (c.loop-digit.invariant
    ∙ ap (λ digits. kept_number (digits_value digits)) (take_all _ word (omega arith)))
    ∙ sym (ap (option_map kept_number) is)

pub loop-digit-preserved : goal.loop-digit-preserved
loop-digit-preserved c =
    let more = digits_value-more c.args.word.now c.loop-digit.digit-index c.loop-digit.value (omega arith)
    c.loop-digit.invariant in
    cc
