use Rattle.mesh_model.specs.Text.PacketLines.{packet_line}
use Rattle.batctl_text.proofs.packet.packet_line.Goals as goal

pub returns-in-IvOgm-clause-ok : goal.returns-in-IvOgm-clause-ok
unfolding packet_line
returns-in-IvOgm-clause-ok c = rw c.in-IvOgm.is (rw (c.from.ensures, c.from-in-IvOgm.ensures, c.from-in-IvOgm-2.ensures) at c.put_line.ensures.ok)

pub returns-in-Bcast-clause-ok : goal.returns-in-Bcast-clause-ok
unfolding packet_line
returns-in-Bcast-clause-ok c = rw c.in-Bcast.is (rw (c.from-in-Bcast.ensures, c.from-in-Bcast-2.ensures) at c.put_line-in-Bcast.ensures.ok)

pub returns-in-Ogm2-clause-ok : goal.returns-in-Ogm2-clause-ok
unfolding packet_line
returns-in-Ogm2-clause-ok c = rw c.in-Ogm2.is (rw (c.from-in-Ogm2.ensures, c.from-in-Ogm2-2.ensures, c.from-in-Ogm2-3.ensures) at c.put_line-in-Ogm2.ensures.ok)

pub returns-in-Unicast-clause-ok : goal.returns-in-Unicast-clause-ok
unfolding packet_line
returns-in-Unicast-clause-ok c = rw c.in-Unicast.is (rw (c.from-in-Unicast.ensures, c.from-in-Unicast-2.ensures) at c.put_line-in-Unicast.ensures.ok)

pub returns-in-Frag-clause-ok : goal.returns-in-Frag-clause-ok
unfolding packet_line
returns-in-Frag-clause-ok c = rw c.in-Frag.is (rw (c.from-in-Frag.ensures, c.from-in-Frag-2.ensures, c.from-in-Frag-3.ensures, c.from-in-Frag-4.ensures, c.from-in-Frag-5.ensures) at c.put_line-in-Frag.ensures.ok)

pub returns-in-Unicast4-clause-ok : goal.returns-in-Unicast4-clause-ok
unfolding packet_line
returns-in-Unicast4-clause-ok c = rw c.in-Unicast4.is (rw (c.from-in-Unicast4.ensures, c.from-in-Unicast4-2.ensures, c.from-in-Unicast4-3.ensures) at c.put_line-in-Unicast4.ensures.ok)

pub returns-in-Icmp-clause-ok : goal.returns-in-Icmp-clause-ok
unfolding packet_line
returns-in-Icmp-clause-ok c = rw c.in-Icmp.is (rw (c.from-in-Icmp.ensures, c.from-in-Icmp-2.ensures, c.from-in-Icmp-3.ensures, c.from-in-Icmp-4.ensures) at c.put_line-in-Icmp.ensures.ok)

pub returns-in-Utvlv-clause-ok : goal.returns-in-Utvlv-clause-ok
unfolding packet_line
returns-in-Utvlv-clause-ok c = rw c.in-Utvlv.is (rw c.from-in-Utvlv.ensures at c.put_line-in-Utvlv.ensures.ok)
