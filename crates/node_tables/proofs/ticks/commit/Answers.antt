use Rattle.std.proofs.Common.{Err, Ok, ◌∙◌, sym, subst, refl}
use Rattle.std.proofs.lemmas.Result.{err_from_is_err_and}
use Rattle.mesh_model.specs.Acts.Rows.{alias_acts}
use Rattle.mesh_model.specs.Commits.History.{committed, present_table}
use Rattle.node_ground.specs.Puts.{Puts, TakesAll}
use Rattle.node_ground.proofs.PutsLemmas.{stops_free}
use Rattle.node_tables.proofs.TickLemmas.{alias_told, is_last, no_alias}
use Rattle.node_tables.proofs.ticks.commit.Goals as goal

pub returns-in_err-commit-clause-puts : goal.returns-in_err-commit-clause-puts
returns-in_err-commit-clause-puts g c = λ mentions history since stands late.
    let p = err_from_is_err_and c.from_residual.result c.from_residual.ensures.1 in
    rw (p.1, p.2) (stops_free g.P.Port.takes g.P.Port.same g.P.Port.over c.args.port.now
    (alias_acts c.args.at.me history.commits (committed (present_table mentions c.args.at.now) history).commits) (g.met.P.Port.same_refl c.args.port.now))

pub returns-in_default-clause-puts : goal.returns-in_default-clause-puts
returns-in_default-clause-puts g c = λ mentions history since stands late.
    subst (λ acts. TakesAll g.P.Port.takes g.P.Port.over c.args.port.now acts c.args.port.now)
    (sym (no_alias c.args.at.me (present_table mentions c.args.at.now) history (sym c.in_default.is ∙ c.in_ok-commit.ensures.number mentions history since stands late))) refl

pub returns-in_err-tell_alias-clause-puts : goal.returns-in_err-tell_alias-clause-puts
returns-in_err-tell_alias-clause-puts g c = λ mentions history since stands late.
    let p = err_from_is_err_and c.from_residual-in_err-tell_alias.result c.from_residual-in_err-tell_alias.ensures.1 in
    let table = present_table mentions c.args.at.now in
    let new = sym c.in-Some.is ∙ c.in_ok-commit.ensures.number mentions history since stands late in
    rw (p.1, p.2) (subst (λ acts. Puts g.P.Port.takes g.P.Port.same g.P.Port.over c.args.port.now acts (Err c.in_err-tell_alias.field-0.0) c.tell_alias.new.port)
    (alias_told c.args.at.me table history c.in-Some.commit new)
    (c.in_err-tell_alias.ensures mentions (committed table history) c.args.at.now (c.in_ok-commit.ensures.committed mentions history since stands late) (is_last table history c.in-Some.commit new)))

pub returns-clause-puts : goal.returns-clause-puts
returns-clause-puts g c = λ mentions history since stands late.
    let table = present_table mentions c.args.at.now in
    let new = sym c.in-Some.is ∙ c.in_ok-commit.ensures.number mentions history since stands late in
    subst (λ acts. Puts g.P.Port.takes g.P.Port.same g.P.Port.over c.args.port.now acts (Ok tt) c.tell_alias.new.port)
    (alias_told c.args.at.me table history c.in-Some.commit new)
    (c.in_ok-tell_alias.ensures mentions (committed table history) c.args.at.now (c.in_ok-commit.ensures.committed mentions history since stands late) (is_last table history c.in-Some.commit new))
