use Rattle.std.proofs.Common.{ap, subst}
use Rattle.std.proofs.lemmas.Result.{err_from_is_err_and}
use Rattle.mesh_codec.specs.Frames.{seen}
use Rattle.mesh_model.specs.Packets.LinkFrame.{LinkFrame, link_frame}
use Rattle.mesh_node.proofs.Underway.{IsUnderway, ends_noted, ends_put, goes_on, stops}
use Rattle.mesh_node.proofs.rows.link.Goals as goal

pub loop-next-preserved : goal.loop-next-preserved
loop-next-preserved g c =
    let whole = (link_frame c.args.bytes.now).packets in
    let way = subst (λ packets. IsUnderway g.A.Algo.stands g.A.Algo.queries g.P.Port.takes g.P.Port.same g.P.Port.over c.args.locals.now c.args.bridge.now c.args.me c.args.came
    whole packets c.args.kept.now c.loop-next.kept c.args.port.now c.loop-next.port) (ap (λ (f : LinkFrame). f.packets) c.in-Ok.ensures.ok) c.loop-next.invariant in
    goes_on g.A.Algo.stands g.A.Algo.queries g.P.Port.takes g.P.Port.same g.P.Port.over c.args.locals.now c.args.bridge.now c.args.me c.args.came
    whole c.next.new.self.packets (seen c.in-Ok.next) c.args.kept.now c.loop-next.kept c.packet.new.kept c.args.port.now c.loop-next.port c.packet.new.port way
    c.in_ok-packet.ensures.noted c.in_ok-packet.ensures.puts

pub returns-in_err-packet-clause-puts : goal.returns-in_err-packet-clause-puts
returns-in_err-packet-clause-puts g c =
    let p = err_from_is_err_and c.from_residual.result c.from_residual.ensures.1 in
    let whole = (link_frame c.args.bytes.now).packets in
    let way = subst (λ packets. IsUnderway g.A.Algo.stands g.A.Algo.queries g.P.Port.takes g.P.Port.same g.P.Port.over c.args.locals.now c.args.bridge.now c.args.me c.args.came
    whole packets c.args.kept.now c.loop-next.kept c.args.port.now c.loop-next.port) (ap (λ (f : LinkFrame). f.packets) c.in-Ok.ensures.ok) c.loop-next.invariant in
    rw (p.1, p.2) (stops g.A.Algo.stands g.A.Algo.queries g.P.Port.takes g.P.Port.same g.P.Port.over c.args.locals.now c.args.bridge.now c.args.me c.args.came
    whole c.next.new.self.packets (seen c.in-Ok.next) c.args.kept.now c.loop-next.kept c.args.port.now c.loop-next.port c.packet.new.port c.in_err-packet.field-0.0 way
    c.in_err-packet.ensures.puts)

pub returns-clause-puts : goal.returns-clause-puts
returns-clause-puts g c =
    let whole = (link_frame c.args.bytes.now).packets in
    let way = subst (λ packets. IsUnderway g.A.Algo.stands g.A.Algo.queries g.P.Port.takes g.P.Port.same g.P.Port.over c.args.locals.now c.args.bridge.now c.args.me c.args.came
    whole packets c.args.kept.now c.loop-next.kept c.args.port.now c.loop-next.port) (ap (λ (f : LinkFrame). f.packets) c.in_default.ensures.ended) c.loop-next.invariant in
    ends_put g.A.Algo.stands g.A.Algo.queries g.P.Port.takes g.P.Port.same g.P.Port.over c.args.locals.now c.args.bridge.now c.args.me c.args.came
    whole c.args.kept.now c.loop-next.kept c.args.port.now c.loop-next.port way

pub returns-clause-noted : goal.returns-clause-noted
returns-clause-noted g c =
    let whole = (link_frame c.args.bytes.now).packets in
    let way = subst (λ packets. IsUnderway g.A.Algo.stands g.A.Algo.queries g.P.Port.takes g.P.Port.same g.P.Port.over c.args.locals.now c.args.bridge.now c.args.me c.args.came
    whole packets c.args.kept.now c.loop-next.kept c.args.port.now c.loop-next.port) (ap (λ (f : LinkFrame). f.packets) c.in_default.ensures.ended) c.loop-next.invariant in
    ends_noted g.A.Algo.stands g.A.Algo.queries g.P.Port.takes g.P.Port.same g.P.Port.over c.args.locals.now c.args.bridge.now c.args.me c.args.came
    whole c.args.kept.now c.loop-next.kept c.args.port.now c.loop-next.port way

pub packet-requires-clause-stands : goal.packet-requires-clause-stands
packet-requires-clause-stands g c =
    let at = c.loop-next.invariant.each c.requires.stands.0 0 c.requires.stands.1 c.requires.stands.2 in
    (at.0, at.1)
