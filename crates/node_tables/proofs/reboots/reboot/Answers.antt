use Rattle.std.proofs.Common.{Err, Ok, [], arith, subst}
use Rattle.std.proofs.lemmas.Result.{err_from_is_err_and}
use Rattle.mesh_model.specs.Acts.Rows.{reboot_acts}
use Rattle.mesh_model.specs.Commits.History.{restarted}
use Rattle.node_ground.specs.Puts.{Puts}
use Rattle.node_ground.proofs.PutsLemmas.{stops_free}
use Rattle.node_tables.proofs.TickLemmas.{reboot_told}
use Rattle.node_tables.proofs.reboots.reboot.Goals as goal

pub returns-in_err-commit-clause-puts : goal.returns-in_err-commit-clause-puts
returns-in_err-commit-clause-puts g c = λ mentions history since stands.
    let p = err_from_is_err_and c.from_residual.result c.from_residual.ensures.1 in
    rw (p.1, p.2) (stops_free g.P.Port.takes g.P.Port.same g.P.Port.over c.args.port.now (reboot_acts c.args.at.me history) (g.met.P.Port.same_refl c.args.port.now))

pub returns-in_err-tell_alias-clause-puts : goal.returns-in_err-tell_alias-clause-puts
returns-in_err-tell_alias-clause-puts g c = λ mentions history since stands.
    let p = err_from_is_err_and c.from_residual-in_err-tell_alias.result c.from_residual-in_err-tell_alias.ensures.1 in
    let number = c.in_ok-commit.ensures.number mentions history since stands in
    rw (p.1, p.2) (subst (λ acts. Puts g.P.Port.takes g.P.Port.same g.P.Port.over c.args.port.now acts (Err c.in_err-tell_alias.field-0.0) c.tell_alias.new.port)
    (reboot_told c.args.at.me history c.in_ok-commit.commit number)
    (c.in_err-tell_alias.ensures [] (restarted history) 0 (c.in_ok-commit.ensures.restarted mentions history since stands) (omega (arith, number))))

pub returns-clause-puts : goal.returns-clause-puts
returns-clause-puts g c = λ mentions history since stands.
    let number = c.in_ok-commit.ensures.number mentions history since stands in
    subst (λ acts. Puts g.P.Port.takes g.P.Port.same g.P.Port.over c.args.port.now acts (Ok tt) c.tell_alias.new.port)
    (reboot_told c.args.at.me history c.in_ok-commit.commit number)
    (c.in_ok-tell_alias.ensures [] (restarted history) 0 (c.in_ok-commit.ensures.restarted mentions history since stands) (omega (arith, number)))
