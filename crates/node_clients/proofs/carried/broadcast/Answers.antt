use Rattle.std.proofs.Common.{◌∙◌, Err, Ok, sym}
use Rattle.std.proofs.lemmas.Result.{err_from_is_err_and}
use Rattle.mesh_model.specs.Acts.FrameRows.{broadcast_acts, broadcast_on, handed_out_if}
use Rattle.mesh_model.specs.Packets.Payload.{client_frame_of}
use Rattle.node_ground.specs.KnowledgeStands.{place}
use Rattle.node_ground.proofs.BroadcastLemmas.{broadcast_spreads}
use Rattle.node_ground.proofs.PutsLemmas.{puts_behind, stops_among, stops_free}
use Rattle.node_clients.proofs.carried.broadcast.Goals as goal

pub returns-in_err-take-clause-puts : goal.returns-in_err-take-clause-puts
returns-in_err-take-clause-puts g c = λ known gateway is bridged.
    let p = err_from_is_err_and c.from_residual.result c.from_residual.ensures.1 in
    rw (p.1, p.2) (stops_free g.P.Port.takes g.P.Port.same g.P.Port.over c.args.port.now
    (broadcast_acts known gateway (place c.args.at) c.args.ttl (record { orig = c.args.orig; number = c.args.seq }) c.args.tail.now)
    (g.met.P.Port.same_refl c.args.port.now))

pub returns-in_err-out_carried-clause-puts : goal.returns-in_err-out_carried-clause-puts
returns-in_err-out_carried-clause-puts g c = λ known gateway is bridged.
    let p = err_from_is_err_and c.from_residual-in_err-out_carried.result c.from_residual-in_err-out_carried.ensures.1 in
    let acts = broadcast_spreads known gateway (place c.args.at) c.args.ttl (record { orig = c.args.orig; number = c.args.seq }) c.args.tail.now
    (sym c.eq.ensures ∙ c.if-eq.false) (sym (c.in_ok-take.ensures.new known.taken is.taken) ∙ c.if-not-branch.false) in
    rw (p.1, p.2, acts) (stops_among g.P.Port.takes g.P.Port.same g.P.Port.over c.in_err-out_carried.field-0.0 c.args.port.now c.out_carried.new.port
    (handed_out_if gateway (place c.args.at) c.args.orig (client_frame_of c.args.tail.now)) (broadcast_on c.args.ttl (record { orig = c.args.orig; number = c.args.seq }) c.args.tail.now)
    (c.in_err-out_carried.ensures gateway bridged))

pub returns-in_err-send_broadcast_on-clause-puts : goal.returns-in_err-send_broadcast_on-clause-puts
returns-in_err-send_broadcast_on-clause-puts g c = λ known gateway is bridged.
    let p = err_from_is_err_and c.from_residual-in_err-send_broadcast_on.result c.from_residual-in_err-send_broadcast_on.ensures.1 in
    let acts = broadcast_spreads known gateway (place c.args.at) c.args.ttl (record { orig = c.args.orig; number = c.args.seq }) c.args.tail.now
    (sym c.eq.ensures ∙ c.if-eq.false) (sym (c.in_ok-take.ensures.new known.taken is.taken) ∙ c.if-not-branch.false) in
    rw (p.1, p.2, acts) (puts_behind g.P.Port.takes g.P.Port.same g.P.Port.over c.args.port.now c.out_carried.new.port c.send_broadcast_on.new.port
    (handed_out_if gateway (place c.args.at) c.args.orig (client_frame_of c.args.tail.now)) (broadcast_on c.args.ttl (record { orig = c.args.orig; number = c.args.seq }) c.args.tail.now)
    (Err c.in_err-send_broadcast_on.field-0.0) (c.in_ok-out_carried.ensures gateway bridged) c.in_err-send_broadcast_on.ensures)

pub returns-clause-puts : goal.returns-clause-puts
returns-clause-puts g c = λ known gateway is bridged.
    let acts = broadcast_spreads known gateway (place c.args.at) c.args.ttl (record { orig = c.args.orig; number = c.args.seq }) c.args.tail.now
    (sym c.eq.ensures ∙ c.if-eq.false) (sym (c.in_ok-take.ensures.new known.taken is.taken) ∙ c.if-not-branch.false) in
    rw acts (puts_behind g.P.Port.takes g.P.Port.same g.P.Port.over c.args.port.now c.out_carried.new.port c.send_broadcast_on.new.port
    (handed_out_if gateway (place c.args.at) c.args.orig (client_frame_of c.args.tail.now)) (broadcast_on c.args.ttl (record { orig = c.args.orig; number = c.args.seq }) c.args.tail.now)
    (Ok tt) (c.in_ok-out_carried.ensures gateway bridged) c.in_ok-send_broadcast_on.ensures)
