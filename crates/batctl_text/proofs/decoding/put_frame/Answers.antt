use Rattle.mesh_codec.specs.Frames.{seen}
use Rattle.batctl_text.proofs.TextLemmas.{frame-start, frame-behind}
use Rattle.batctl_text.proofs.decoding.put_frame.Goals as goal

pub loop-packet-init : goal.loop-packet-init
loop-packet-init c = rw c.new-frame.ensures (frame-start c.args.out.now.items c.args.bytes.now)

pub loop-packet-preserved : goal.loop-packet-preserved
loop-packet-preserved c = frame-behind c.args.out.now.items c.args.bytes.now c.loop-packet.out.items c.put_packet.new.out.items c.loop-packet.frame c.next.new.self
    (seen c.in-Ok.packet) c.loop-packet.invariant c.in-Ok.ensures.ok c.in_ok-put_packet-in-Ok.ensures.ok
