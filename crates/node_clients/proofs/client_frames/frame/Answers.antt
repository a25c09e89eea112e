use Rattle.std.proofs.Common.{Err, Ok}
use Rattle.std.proofs.lemmas.Result.{err_from_is_err_and}
use Rattle.mesh_codec.specs.Payloads.{seen_frame}
use Rattle.mesh_model.specs.Acts.Choosing.{client_acts}
use Rattle.node_clients.specs.FrameRows.{key_from}
use Rattle.node_clients.proofs.SightLemmas.{behind_sighting, has_sighted, owned_news, stops_at_sighting}
use Rattle.node_clients.proofs.client_frames.frame.Goals as goal

pub client_frame-requires : goal.client_frame-requires
client_frame-requires g c = (_, c.in_ok-sight_client.ensures.noted c.requires.0 c.requires.1)

pub returns-in_err-sight_client-clause-puts : goal.returns-in_err-sight_client-clause-puts
returns-in_err-sight_client-clause-puts g c = λ log before flags.
    let p = err_from_is_err_and c.from_residual.result c.from_residual.ensures.1 in
    let q = g.A.Algo.queries c.args.at.me in
    rw (p.1, p.2) (stops_at_sighting g.P.Port.takes g.P.Port.same g.P.Port.over q c.args.at.me log c.args.at.now (key_from (seen_frame c.args.frame.now))
    (client_acts q c.args.at.me log c.args.at.now (seen_frame c.args.frame.now)) c.key_from.ensures
    c.in_err-sight_client.field-0.0 c.args.port.now c.sight_client.new.port (c.in_err-sight_client.ensures.puts log before flags))

pub returns-in_err-client_frame-clause-puts : goal.returns-in_err-client_frame-clause-puts
returns-in_err-client_frame-clause-puts g c = λ log before flags.
    let p = err_from_is_err_and c.from_residual-in_err-client_frame.result c.from_residual-in_err-client_frame.ensures.1 in
    let q = g.A.Algo.queries c.args.at.me in
    rw (p.1, p.2) (behind_sighting g.P.Port.takes g.P.Port.same g.P.Port.over q c.args.at.me log c.args.at.now (key_from (seen_frame c.args.frame.now))
    (client_acts q c.args.at.me log c.args.at.now (seen_frame c.args.frame.now)) c.key_from.ensures
    c.args.port.now c.sight_client.new.port c.client_frame.new.port (Err c.in_err-client_frame.field-0.0) (c.in_ok-sight_client.ensures.puts log before flags)
    (c.in_err-client_frame.ensures.puts _ _ (rw c.key_from.ensures at (c.in_ok-sight_client.ensures.noted log before))
    (owned_news before (rw c.key_from.ensures at (c.in_ok-sight_client.ensures.sighted log before flags)))))

pub returns-clause-puts : goal.returns-clause-puts
returns-clause-puts g c = λ log before flags.
    let q = g.A.Algo.queries c.args.at.me in
    behind_sighting g.P.Port.takes g.P.Port.same g.P.Port.over q c.args.at.me log c.args.at.now (key_from (seen_frame c.args.frame.now))
    (client_acts q c.args.at.me log c.args.at.now (seen_frame c.args.frame.now)) c.key_from.ensures
    c.args.port.now c.sight_client.new.port c.client_frame.new.port (Ok tt) (c.in_ok-sight_client.ensures.puts log before flags)
    (c.in_ok-client_frame.ensures.puts _ _ (rw c.key_from.ensures at (c.in_ok-sight_client.ensures.noted log before))
    (owned_news before (rw c.key_from.ensures at (c.in_ok-sight_client.ensures.sighted log before flags))))

pub returns-clause-noted : goal.returns-clause-noted
returns-clause-noted g c = λ log before. c.in_ok-client_frame.ensures.noted _ (rw c.key_from.ensures at (c.in_ok-sight_client.ensures.noted log before))

pub returns-clause-sighted : goal.returns-clause-sighted
returns-clause-sighted g c = λ log before flags. has_sighted before (seen_frame c.args.frame.now) (rw c.key_from.ensures at (c.in_ok-sight_client.ensures.sighted log before flags))
