use Rattle.std.proofs.Common.{Err, Ok, refl}
use Rattle.std.proofs.lemmas.Result.{err_from_is_err_and}
use Rattle.mesh_model.specs.Acts.Choosing.{calling_acts}
use Rattle.node_clients.proofs.SightLemmas.{behind_sighting, has_called, stops_at_sighting}
use Rattle.node_clients.proofs.calls.call.Goals as goal

pub returns-in_err-sight_client-clause-puts : goal.returns-in_err-sight_client-clause-puts
returns-in_err-sight_client-clause-puts g c = λ log before flags.
    let p = err_from_is_err_and c.from_residual.result c.from_residual.ensures.1 in
    let q = g.A.Algo.queries c.args.at.me in
    rw (p.1, p.2) (stops_at_sighting g.P.Port.takes g.P.Port.same g.P.Port.over q c.args.at.me log c.args.at.now c.args.key
    (calling_acts q c.args.at.me log c.args.at.now c.args.key c.args.text.now) refl
    c.in_err-sight_client.field-0.0 c.args.port.now c.sight_client.new.port (c.in_err-sight_client.ensures.puts log before flags))

pub returns-in_err-call_gateway-clause-puts : goal.returns-in_err-call_gateway-clause-puts
returns-in_err-call_gateway-clause-puts g c = λ log before flags.
    let p = err_from_is_err_and c.from_residual-in_err-call_gateway.result c.from_residual-in_err-call_gateway.ensures.1 in
    let q = g.A.Algo.queries c.args.at.me in
    rw (p.1, p.2) (behind_sighting g.P.Port.takes g.P.Port.same g.P.Port.over q c.args.at.me log c.args.at.now c.args.key
    (calling_acts q c.args.at.me log c.args.at.now c.args.key c.args.text.now) refl
    c.args.port.now c.sight_client.new.port c.call_gateway.new.port (Err c.in_err-call_gateway.field-0.0)
    (c.in_ok-sight_client.ensures.puts log before flags) (c.in_err-call_gateway.ensures.puts _ (c.in_ok-sight_client.ensures.noted log before)))

pub returns-clause-puts : goal.returns-clause-puts
returns-clause-puts g c = λ log before flags.
    let q = g.A.Algo.queries c.args.at.me in
    behind_sighting g.P.Port.takes g.P.Port.same g.P.Port.over q c.args.at.me log c.args.at.now c.args.key
    (calling_acts q c.args.at.me log c.args.at.now c.args.key c.args.text.now) refl
    c.args.port.now c.sight_client.new.port c.call_gateway.new.port (Ok tt)
    (c.in_ok-sight_client.ensures.puts log before flags) (c.in_ok-call_gateway.ensures.puts _ (c.in_ok-sight_client.ensures.noted log before))

pub returns-clause-noted : goal.returns-clause-noted
returns-clause-noted g c = λ log before. c.in_ok-call_gateway.ensures.noted _ (c.in_ok-sight_client.ensures.noted log before)

pub returns-clause-sighted : goal.returns-clause-sighted
returns-clause-sighted g c = λ log before flags. has_called before c.args.key c.args.text.now (c.in_ok-sight_client.ensures.sighted log before flags)
