use Rattle.std.proofs.Common.{sym}
use Rattle.mesh_scene.proofs.scene.Scene.carry_other.Goals as goal

pub add_link-requires-clause-ranges : goal.add_link-requires-clause-ranges
add_link-requires-clause-ranges g c = c.requires.ranges c.in-Link.from c.in-Link.to c.in-Link.pattern c.in-Link.delay c.in-Link.throughput c.in-Link.is

pub returns-in-Node : goal.returns-in-Node
returns-in-Node g c = λ state stands. rw (c.in-Node.is, sym c.as_slice.ensures.value, c.requires.empty) (c.add_node.ensures state stands)

pub returns-in-Link : goal.returns-in-Link
returns-in-Link g c = λ state stands. rw (c.in-Link.is, sym c.as_slice-in-Link.ensures.value, sym c.as_slice-in-Link-2.ensures.value, c.requires.empty) (c.add_link.ensures state stands)

pub returns-in-Lan : goal.returns-in-Lan
returns-in-Lan g c = λ state stands. rw (c.in-Lan.is, sym c.as_slice-in-Lan.ensures.value, c.requires.empty) (c.add_lan.ensures state stands)

pub returns-in-Frame : goal.returns-in-Frame
returns-in-Frame g c = λ state stands. rw (c.in-Frame.is, sym c.as_slice-in-Frame-2.ensures.value, sym c.as_slice-in-Frame.ensures.value) (c.frame.ensures state stands)

pub returns-in-Gone : goal.returns-in-Gone
returns-in-Gone g c = λ state stands. rw (c.in-Gone.is, sym c.as_slice-in-Gone.ensures.value) (c.gone.ensures state stands)

pub returns-in-Arp : goal.returns-in-Arp
returns-in-Arp g c = λ state stands. rw (c.in-Arp.is, sym c.as_slice-in-Arp.ensures.value) (c.arp.ensures state stands)

pub returns-in-Dhcp : goal.returns-in-Dhcp
returns-in-Dhcp g c = λ state stands. rw (c.in-Dhcp.is, sym c.as_slice-in-Dhcp.ensures.value, sym c.as_slice-in-Dhcp-2.ensures.value) (c.dhcp.ensures state stands)

pub returns-in-Ping : goal.returns-in-Ping
returns-in-Ping g c = λ state stands. rw (c.in-Ping.is, sym c.as_slice-in-Ping.ensures.value, sym c.as_slice-in-Ping-2.ensures.value) (c.ping.ensures state stands)

pub returns-in-Trace : goal.returns-in-Trace
returns-in-Trace g c = λ state stands. rw (c.in-Trace.is, sym c.as_slice-in-Trace.ensures.value, sym c.as_slice-in-Trace-2.ensures.value) (c.trace.ensures state stands)

pub returns-in-Reboot : goal.returns-in-Reboot
returns-in-Reboot g c = λ state stands. rw (c.in-Reboot.is, sym c.as_slice-in-Reboot.ensures.value) (c.reboot.ensures state stands)

pub returns-in-Show : goal.returns-in-Show
returns-in-Show g c = λ state stands. rw (c.in-Show.is, sym c.as_slice-in-Show.ensures.value) (c.show.ensures state stands)
