use Rattle.std.proofs.Common.{Err, Ok}
use Rattle.std.proofs.lemmas.Result.{err_from_is_err_and}
use Rattle.node_probes.proofs.ProbeLemmas.{probe_goes}
use Rattle.node_probes.proofs.probes.put_probe.Goals as goal

pub returns-in_err-send-clause-puts : goal.returns-in_err-send-clause-puts
returns-in_err-send-clause-puts g c = λ known stands.
    let p = err_from_is_err_and c.from_residual-in_err-send.result c.from_residual-in_err-send.ensures.1 in
    rw (p.1, p.2) (probe_goes g.P.Port.takes g.P.Port.same g.P.Port.over c.args.at.me c.in-Some.next c.args.trace c.args.probe
    ((g.A.Algo.queries c.args.at.me).route known.routes c.args.at.now c.args.probe.target) c.request_head-head.result c.args.port.now c.send.new.port (Err c.in_err-send.field-0.0)
    (c.in-Some.ensures c.args.at.me known.routes stands.routes) c.request_head-head.ensures c.in_err-send.ensures)

pub returns-clause-puts : goal.returns-clause-puts
returns-clause-puts g c = λ known stands.
    probe_goes g.P.Port.takes g.P.Port.same g.P.Port.over c.args.at.me c.in-Some.next c.args.trace c.args.probe
    ((g.A.Algo.queries c.args.at.me).route known.routes c.args.at.now c.args.probe.target) c.request_head-head.result c.args.port.now c.send.new.port (Ok tt)
    (c.in-Some.ensures c.args.at.me known.routes stands.routes) c.request_head-head.ensures c.in_ok-send.ensures
