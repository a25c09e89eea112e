use Rattle.std.proofs.Common.{Err, Ok}
use Rattle.std.proofs.lemmas.Result.{err_from_is_err_and}
use Rattle.node_probes.specs.Icmp.{icmp_of}
use Rattle.node_ground.specs.KnowledgeStands.{place}
use Rattle.node_probes.proofs.ProbeLemmas.{message_goes}
use Rattle.node_probes.proofs.echoes.icmp_past.Goals as goal

pub returns-in_err-send : goal.returns-in_err-send
returns-in_err-send g c = λ known stands.
    let p = err_from_is_err_and c.from_residual-in_err-send.result c.from_residual-in_err-send.ensures.1 in
    rw (p.1, p.2) (message_goes g.P.Port.takes g.P.Port.same g.P.Port.over (g.A.Algo.queries c.args.at.me) known (place c.args.at) (icmp_of c.args.message) c.in-Some.next c.head.result
    c.args.port.now c.send.new.port (Err c.in_err-send.field-0.0) c.if-message-le1.false (c.in-Some.ensures c.args.at.me known.routes stands.routes) c.head.ensures c.in_err-send.ensures)

pub returns : goal.returns
returns g c = λ known stands.
    message_goes g.P.Port.takes g.P.Port.same g.P.Port.over (g.A.Algo.queries c.args.at.me) known (place c.args.at) (icmp_of c.args.message) c.in-Some.next c.head.result
    c.args.port.now c.send.new.port (Ok tt) c.if-message-le1.false (c.in-Some.ensures c.args.at.me known.routes stands.routes) c.head.ensures c.in_ok-send.ensures
