use Rattle.std.proofs.Common.{rules, ◌∙◌, sym, subst, refl}
use Rattle.std.proofs.lemmas.Result.{err_from_is_err_and}
use Rattle.mesh_model.specs.Acts.Rows.{alias_event}
use Rattle.mesh_model.specs.Commits.Aliases.{last_alias}
use Rattle.node_ground.specs.Puts.{Puts, TakesAll}
use Rattle.node_ground.proofs.PutsLemmas.{stops_free}
use Rattle.node_tables.proofs.reboots.tell_alias.Goals as goal

pub returns-in_err-earlier : goal.returns-in_err-earlier
returns-in_err-earlier g c = λ mentions history since stands last.
    let p = err_from_is_err_and c.from_residual.result c.from_residual.ensures.1 in
    rw (p.1, p.2) (stops_free g.P.Port.takes g.P.Port.same g.P.Port.over c.args.port.now (alias_event c.args.at.me c.args.commit (last_alias history.commits)) (g.met.P.Port.same_refl c.args.port.now))

pub returns-in_default : goal.returns-in_default
returns-in_default g c = λ mentions history since stands last.
    subst (λ alias. TakesAll g.P.Port.takes g.P.Port.over c.args.port.now (alias_event c.args.at.me c.args.commit alias) c.args.port.now)
    (sym c.in_default.is ∙ c.in_ok-earlier.ensures.newest mentions history since stands last) refl

pub returns-in_err-put : goal.returns-in_err-put
returns-in_err-put g c = λ mentions history since stands last.
    subst (λ alias. Puts g.P.Port.takes g.P.Port.same g.P.Port.over c.args.port.now (alias_event c.args.at.me c.args.commit alias) c.from_residual-in_err-put.result c.put.new.self)
    (sym c.in-Some.is ∙ c.in_ok-earlier.ensures.newest mentions history since stands last) (search rules)

pub returns : goal.returns
returns g c = λ mentions history since stands last.
    subst (λ alias. TakesAll g.P.Port.takes g.P.Port.over c.args.port.now (alias_event c.args.at.me c.args.commit alias) c.put.new.self)
    (sym c.in-Some.is ∙ c.in_ok-earlier.ensures.newest mentions history since stands last)
    (c.put.new.self, c.in_ok-put.ensures.taken, c.in_ok-put.ensures.within, refl)
