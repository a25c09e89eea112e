use Rattle.std.proofs.Common.{◌≡◌, ◌∙◌, true, None, IfErr, cond, is_none, rules, ap, subst, sym}
use Rattle.std.proofs.lemmas.Result.{err_from_is_err_and}
use Rattle.mesh_model.specs.Clients.Limits.{limit_beside}
use Rattle.mesh_model.specs.Clients.Present.{present_clients}
use Rattle.tt_local.specs.Limits.{HasLimit}
use Rattle.tt_local.proofs.locals.Locals.keep_limits.Goals as goal

pub returns-in_err-keep_limits_beside-clause-limit : goal.returns-in_err-keep_limits_beside-clause-limit
returns-in_err-keep_limits_beside-clause-limit c = λ mentions history since stands in_time.
    let p = err_from_is_err_and c.from_residual.result c.from_residual.ensures.1 in
    let absent : is_none c.row.result ≡ true = search rules in
    let newly = ap is_none (sym (c.row.ensures mentions history since stands in_time)) ∙ absent in
    subst (λ passed. IfErr c.from_residual.result (HasLimit passed))
    (sym (ap (λ b. cond b (limit_beside (present_clients mentions c.args.now) c.args.key.vid) None) newly))
    (rw (p.1, p.2) (c.in_err-keep_limits_beside.ensures.limit mentions history since stands in_time))
