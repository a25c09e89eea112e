use Rattle.std.proofs.Common.{Err, Ok, ◌∙◌}
use Rattle.std.proofs.lemmas.Result.{err_from_is_err_and}
use Rattle.mesh_codec.specs.Payloads.{seen_frame}
use Rattle.node_ground.specs.KnowledgeStands.{place}
use Rattle.node_clients.proofs.GroupLemmas.{group_puts, group_stops}
use Rattle.node_clients.proofs.groups.group_frame.Goals as goal

pub returns-in_err-hand_out_if-clause-puts : goal.returns-in_err-hand_out_if-clause-puts
returns-in_err-hand_out_if-clause-puts g c = λ known stands.
    let p = err_from_is_err_and c.from_residual-in_err-hand_out_if.result c.from_residual-in_err-hand_out_if.ensures.1 in
    rw (p.1, p.2) (group_stops g.P.Port.takes g.P.Port.same g.P.Port.over (g.A.Algo.queries c.args.at.me) known (place c.args.at) (seen_frame c.args.frame.now) c.args.joined
    c.in_err-hand_out_if.field-0.0 c.args.port.now c.hand_out_if.new.port c.in_err-hand_out_if.ensures)

pub returns-in_err-send_to_receivers-clause-puts : goal.returns-in_err-send_to_receivers-clause-puts
returns-in_err-send_to_receivers-clause-puts g c = λ known stands.
    let p = err_from_is_err_and c.from_residual-in_err-send_to_receivers.result c.from_residual-in_err-send_to_receivers.ensures.1 in
    rw (p.1, p.2) (group_puts g.P.Port.takes g.P.Port.same g.P.Port.over (g.A.Algo.queries c.args.at.me) known (place c.args.at) (seen_frame c.args.frame.now) c.args.joined
    _ c.args.port.now c.hand_out_if.new.port c.send_to_receivers.new.port (Err c.in_err-send_to_receivers.field-0.0)
    (c.as_slice.ensures.value ∙ rw c.key_to.ensures at (c.in_ok-receivers.ensures c.args.at.me known stands)) c.in_ok-hand_out_if.ensures (c.in_err-send_to_receivers.ensures.puts known stands))

pub returns-clause-puts : goal.returns-clause-puts
returns-clause-puts g c = λ known stands.
    group_puts g.P.Port.takes g.P.Port.same g.P.Port.over (g.A.Algo.queries c.args.at.me) known (place c.args.at) (seen_frame c.args.frame.now) c.args.joined
    _ c.args.port.now c.hand_out_if.new.port c.send_to_receivers.new.port (Ok tt)
    (c.as_slice.ensures.value ∙ rw c.key_to.ensures at (c.in_ok-receivers.ensures c.args.at.me known stands)) c.in_ok-hand_out_if.ensures (c.in_ok-send_to_receivers.ensures.puts known stands)
