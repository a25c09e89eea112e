use Rattle.std.proofs.lemmas.Result.{err_from_is_err_and}
use Rattle.mesh_scenario.specs.Inner.Options.{options_seen}
use Rattle.mesh_scenario.specs.Inner.Taking.{word_found}
use Rattle.mesh_scenario.proofs.OptionsLemmas.{FailsOptions-first}
use Rattle.mesh_scenario.proofs.words.Words.+options_beside.Goals as goal

pub returns-in_err-options-in-Some-clause-refused : goal.returns-in_err-options-in-Some-clause-refused
returns-in_err-options-in-Some-clause-refused t c =
    let p = err_from_is_err_and c.from_residual.result c.from_residual.ensures.1 in
    rw (p.1, p.2) (FailsOptions-first _ (word_found c.in-Some.found) _ (options_seen c.args.given) _
    c.in-Some.ensures.some c.in_err-options-in-Some.ensures.refused)
