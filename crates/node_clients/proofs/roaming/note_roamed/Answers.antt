use Rattle.std.proofs.Common.{ap, subst}
use Rattle.mesh_codec.specs.Frames.{seen}
use Rattle.mesh_model.specs.Packets.LinkFrame.{LinkFrame, link_frame}
use Rattle.node_clients.proofs.RoamingLemmas.{AreNoted, ends, goes_on}
use Rattle.node_clients.proofs.roaming.note_roamed.Goals as goal

pub loop-packet-preserved : goal.loop-packet-preserved
loop-packet-preserved c =
    let whole = (link_frame c.args.bytes.now).packets in
    let way = subst (λ packets. AreNoted c.args.me whole packets c.args.locals.now c.loop-packet.locals)
    (ap (λ (f : LinkFrame). f.packets) c.in-Ok.ensures.ok) c.loop-packet.invariant in
    goes_on c.args.me whole c.next.new.self.packets (seen c.in-Ok.packet) c.args.locals.now c.loop-packet.locals c.note_packet.new.locals way c.note_packet.ensures

pub returns : goal.returns
returns c =
    let whole = (link_frame c.args.bytes.now).packets in
    let way = subst (λ packets. AreNoted c.args.me whole packets c.args.locals.now c.loop-packet.locals)
    (ap (λ (f : LinkFrame). f.packets) c.in_default.ensures.ended) c.loop-packet.invariant in
    ends c.args.me whole c.args.locals.now c.loop-packet.locals way
