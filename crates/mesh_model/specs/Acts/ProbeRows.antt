-- The rows of ping and traceroute: what a node puts for a session that a line begins, for a message
-- to it, and for one on its way to another node. A probe is an echo request. Its target answers by
-- an echo reply; a node on the way where no hop is left, or from which no route leads on, answers
-- that. An answer to an open probe is printed, and a traceroute then goes on by its next probe. The
-- main words are `session_acts`, `icmp_here` and `passed_icmp`.
use Rattle.std.specs.Prelude.{ℕ, ◌-◌, ◌==◌, nat_le, Bool, true, false, List, [], ◌∷◌, Option, Some, None, if◌then◌else◌}
use Rattle.mesh_base.specs.declared.address.Mac.{Mac}
use Rattle.mesh_base.specs.declared.event.Event.{Event}
use Rattle.mesh_base.specs.declared.event.Event.TheVariants.{Pinged, Traced}
use Rattle.mesh_base.specs.declared.event.PingResult.{PingResult}
use Rattle.mesh_base.specs.declared.event.PingResult.TheVariants as pings
use Rattle.mesh_base.specs.declared.event.TraceResult.{TraceResult}
use Rattle.mesh_base.specs.declared.event.TraceResult.TheVariants as traces
use Rattle.mesh_model.specs.declared.act.Act.{Act}
use Rattle.mesh_model.specs.declared.act.Act.TheVariants.{Print}
use Rattle.mesh_model.specs.declared.packet.Head.{Head}
use Rattle.mesh_model.specs.declared.packet.Head.TheVariants.{Icmp}
use Rattle.mesh_model.specs.declared.probe.OpenProbe.{OpenProbe}
use Rattle.mesh_model.specs.declared.probe.Probe.{Probe}
use Rattle.mesh_model.specs.declared.probe.Told.{Told}
use Rattle.mesh_model.specs.declared.probe.Told.TheVariants.{Unknown, Done, Next}
use Rattle.mesh_model.specs.Acts.BridgeRows.{Place}
use Rattle.mesh_model.specs.Acts.Packing.{sent_over, sent_to}
use Rattle.mesh_model.specs.Knowledge.Known.{Knowledge}
use Rattle.mesh_model.specs.Packets.Numbers.{destination_unreachable, echo_reply, echo_request, ttl_exceeded, first_ttl}
use Rattle.mesh_model.specs.Probes.OpenProbes.{first_probe, is_answer, probes_by, told}
use Rattle.mesh_model.specs.Routes.Queries.{Queries}
use Rattle.mesh_model.specs.Routes.RouteLog.{RouteLog}

-- a message of ping or traceroute, as its packet has it
pub record IcmpMessage : Type 0 where
  pub ttl : ℕ
  pub kind : ℕ
  pub dst : Mac
  pub orig : Mac
  pub uid : ℕ
  pub seq : ℕ

-- the head of a message
abbrev pub icmp_head : IcmpMessage → Head
icmp_head m = Icmp m.ttl m.kind m.dst m.orig m.uid m.seq

-- ---- probes

-- the uid of a session's messages
abbrev pub session_uid : Bool → ℕ
session_uid true = 2
session_uid false = 1

-- the echo request of a probe
abbrev pub request_of : Mac → Bool → Probe → IcmpMessage
request_of me trace probe = record {
  ttl = probe.ttl;
  kind = echo_request;
  dst = probe.target;
  orig = me;
  uid = session_uid trace;
  seq = probe.seq;
}

-- a probe that no neighbour leads on
abbrev pub unsent : Mac → Bool → Probe → Event
unsent me true probe = Traced me probe.target traces.NoRoute
unsent me false probe = Pinged me probe.target probe.seq pings.NoRoute

-- a probe goes to the neighbour on the way to its target, where there is one
abbrev pub probe_acts : Mac → Bool → Probe → Option Mac → List Act
probe_acts me trace probe None = Print (unsent me trace probe) ∷ []
probe_acts me trace probe (Some next) =
    sent_to next None (icmp_head (request_of me trace probe)) [] ∷ []

-- a ping or, for `trace`, a traceroute begins
unfoldable pub session_acts : Queries → Knowledge → Place → Mac → Bool → List Act
session_acts q known at target trace =
    probe_acts at.me trace (first_probe target trace (probes_by known.probes))
    (q.route known.routes at.now target)

-- ---- answers

-- what an answer, so many milliseconds after it, makes of a ping
abbrev pub ping_result : IcmpMessage → ℕ → PingResult
ping_result m rtt =
    if m.kind == echo_reply then pings.Reply m.ttl rtt
    else if m.kind == destination_unreachable then pings.Unreachable m.orig
    else pings.Exceeded m.orig

-- what an answer, so many milliseconds after it, makes of a traceroute's probe of a hop
abbrev pub trace_result : IcmpMessage → ℕ → ℕ → TraceResult
trace_result m hop rtt =
    if m.kind == echo_reply then traces.Ended hop m.orig rtt
    else if m.kind == destination_unreachable then traces.Unreachable hop m.orig
    else traces.Passed hop m.orig rtt

-- an answer to an open probe
abbrev pub answer_event : Place → IcmpMessage → OpenProbe → Event
answer_event at m asked =
    if asked.trace
    then Traced at.me asked.probe.target (trace_result m asked.probe.ttl (at.now - asked.sent))
    else Pinged at.me asked.probe.target asked.probe.seq (ping_result m (at.now - asked.sent))

-- the probe that follows an answer, where one does
abbrev pub next_acts : Queries → RouteLog → Place → Told → List Act
next_acts q routes at Unknown = []
next_acts q routes at (Done target sent hop) = []
next_acts q routes at (Next hop sent probe) =
    probe_acts at.me true probe (q.route routes at.now probe.target)

-- an answer to the open probe of its number, where there is one, and what follows
abbrev pub answered_acts : Queries → Knowledge → Place → IcmpMessage → Option OpenProbe → List Act
answered_acts q known at m None = []
answered_acts q known at m (Some asked) = Print (answer_event at m asked)
    ∷ next_acts q known.routes at (told m.seq m.kind (probes_by known.probes))

-- ---- messages

-- an echo request is answered by a message of this type; other messages aren't
abbrev pub answered_by : Queries → Knowledge → Place → ℕ → IcmpMessage → List Act
answered_by q known at kind m =
    if m.kind == echo_request then sent_over (q.route known.routes at.now m.orig)
    (icmp_head (record m { ttl = first_ttl; kind = kind; dst = m.orig; orig = at.me })) []
    else []

-- a message for this node
unfoldable pub icmp_here : Queries → Knowledge → Place → IcmpMessage → List Act
icmp_here q known at m =
    if is_answer m.kind then answered_acts q known at m ((probes_by known.probes).waiting m.seq)
    else answered_by q known at echo_reply m

-- a message that goes on to a neighbour, where there is one
abbrev pub icmp_on_route : Queries → Knowledge → Place → IcmpMessage → Option Mac → List Act
icmp_on_route q known at m None = answered_by q known at destination_unreachable m
icmp_on_route q known at m (Some next) =
    sent_to next None (icmp_head (record m { ttl = m.ttl - 1 })) [] ∷ []

-- a message for another node, which goes on while hops are left and a route leads there
unfoldable pub passed_icmp : Queries → Knowledge → Place → IcmpMessage → List Act
passed_icmp q known at m = if nat_le m.ttl 1 then answered_by q known at ttl_exceeded m
    else icmp_on_route q known at m (q.route known.routes at.now m.dst)
