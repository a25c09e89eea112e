use Rattle.std.proofs.Common.{◌≡◌, ◌∷◌, ◌∙◌, ap, rules, subst}
use Rattle.std.proofs.lemmas.Result.{err_from_is_err_and}
use Rattle.node_clients.specs.GroupRows.{each_addressed, one_addressed}
use Rattle.node_clients.proofs.GroupLemmas.{each_next}
use Rattle.node_ground.specs.Puts.{StopsAt}
use Rattle.node_ground.proofs.PutsLemmas.{stops_among}
use Rattle.node_clients.proofs.groups.+send_each.Goals as goal

pub returns-in_err-send_one : goal.returns-in_err-send_one
returns-in_err-send_one g t c = λ known stands.
    let p = err_from_is_err_and c.from_residual.result c.from_residual.ensures.1 in
    let q = g.A.Algo.queries c.args.at.me in
    let all : c.in-Some.first.now ∷ c.in-Some.rest.now ≡ c.args.receivers.now = search rules in
    rw (p.1, p.2) (subst (λ acts. StopsAt g.P.Port.takes g.P.Port.same g.P.Port.over c.in_err-send_one.field-0.0 c.args.port.now acts c.send_one.new.port)
    (each_next q known c.args.at.now c.args.payload.now c.in-Some.first.now c.in-Some.rest.now ∙ ap (each_addressed q known c.args.at.now c.args.payload.now) all)
    (stops_among g.P.Port.takes g.P.Port.same g.P.Port.over c.in_err-send_one.field-0.0 c.args.port.now c.send_one.new.port
    (one_addressed q known c.args.at.now c.args.payload.now c.in-Some.first.now) (each_addressed q known c.args.at.now c.args.payload.now c.in-Some.rest.now)
    (c.in_err-send_one.ensures known stands)))
