use Rattle.std.proofs.Common.{rules, tests, sym, ◌∙◌}
use Rattle.std.proofs.lemmas.Iterator.{YieldsList-from_slice}
use Rattle.std.proofs.lemmas.Iterator.Search.{position_from_yields_List}
use Rattle.mesh_scenario.specs.Inner.Taking.{is_dot}
use Rattle.mesh_scenario.proofs.IpLemmas.{slice_split-at, slice_split-whole}
use Rattle.mesh_scenario.proofs.ip.at_dot.Goals as goal

pub returns-in_err-offset-clause-none : goal.returns-in_err-offset-clause-none
returns-in_err-offset-clause-none c =
    let text = c.args.text.now in
    rw c.from_residual.ensures (slice_split-whole text (sym c.in_err-offset.was
    ∙ position_from_yields_List is_dot _ _ _ c.position.ensures.ran (YieldsList-from_slice text cc)
    (λ x b q k. search (rules, tests))))

pub returns-clause-some : goal.returns-clause-some
returns-clause-some c =
    let text = c.args.text.now in
    slice_split-at text _ (sym c.in_ok-offset.was
    ∙ position_from_yields_List is_dot _ _ _ c.position.ensures.ran (YieldsList-from_slice text cc)
    (λ x b q k. search (rules, tests)))
