use Rattle.std.proofs.Common.{Err, Ok, refl}
use Rattle.std.proofs.lemmas.Result.{err_from_is_err_and}
use Rattle.mesh_model.specs.Acts.Choosing.{asking_acts}
use Rattle.node_clients.proofs.SightLemmas.{behind_sighting, stops_at_sighting}
use Rattle.mesh_node.specs.Questions.{asking_client}
use Rattle.mesh_node.proofs.AskLemmas.{has_asked}
use Rattle.mesh_node.proofs.asking.ask_sighted.Goals as goal

pub returns-in_err-sight_client-clause-puts : goal.returns-in_err-sight_client-clause-puts
returns-in_err-sight_client-clause-puts g c = λ log before flags.
    let p = err_from_is_err_and c.from_residual.result c.from_residual.ensures.1 in
    let q = g.A.Algo.queries c.args.at.me in
    let asked = c.args.asked in
    rw (p.1, p.2) (stops_at_sighting g.P.Port.takes g.P.Port.same g.P.Port.over q c.args.at.me log c.args.at.now (asking_client asked)
    (asking_acts q c.args.at.me log c.args.at.now asked.mac asked.own_ip asked.asked_ip asked.vid) refl
    c.in_err-sight_client.field-0.0 c.args.port.now c.sight_client.new.port (c.in_err-sight_client.ensures.puts log before flags))

pub returns-in_err-ask-clause-puts : goal.returns-in_err-ask-clause-puts
returns-in_err-ask-clause-puts g c = λ log before flags.
    let p = err_from_is_err_and c.from_residual-in_err-ask.result c.from_residual-in_err-ask.ensures.1 in
    let q = g.A.Algo.queries c.args.at.me in
    let asked = c.args.asked in
    rw (p.1, p.2) (behind_sighting g.P.Port.takes g.P.Port.same g.P.Port.over q c.args.at.me log c.args.at.now (asking_client asked)
    (asking_acts q c.args.at.me log c.args.at.now asked.mac asked.own_ip asked.asked_ip asked.vid) refl
    c.args.port.now c.sight_client.new.port c.ask.new.port (Err c.in_err-ask.field-0.0)
    (c.in_ok-sight_client.ensures.puts log before flags) (c.in_err-ask.ensures.puts _ (c.in_ok-sight_client.ensures.noted log before)))

pub returns-clause-puts : goal.returns-clause-puts
returns-clause-puts g c = λ log before flags.
    let q = g.A.Algo.queries c.args.at.me in
    let asked = c.args.asked in
    behind_sighting g.P.Port.takes g.P.Port.same g.P.Port.over q c.args.at.me log c.args.at.now (asking_client asked)
    (asking_acts q c.args.at.me log c.args.at.now asked.mac asked.own_ip asked.asked_ip asked.vid) refl
    c.args.port.now c.sight_client.new.port c.ask.new.port (Ok tt)
    (c.in_ok-sight_client.ensures.puts log before flags) (c.in_ok-ask.ensures.puts _ (c.in_ok-sight_client.ensures.noted log before))

pub returns-clause-noted : goal.returns-clause-noted
returns-clause-noted g c = λ log before. c.in_ok-ask.ensures.noted _ (c.in_ok-sight_client.ensures.noted log before)

pub returns-clause-sighted : goal.returns-clause-sighted
returns-clause-sighted g c = λ log before flags.
    let me = c.args.at.me in
    has_asked (g.A.Algo.queries me) c.args.locals.now c.sight_client.new.locals me c.args.asked log c.args.at.now before.clients before.later
    (c.in_ok-sight_client.ensures.sighted log before flags)
