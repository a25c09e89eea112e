-- What the rows of ping and traceroute put: messages to a neighbour, and events of their own.
use Rattle.std.proofs.Common.{ℕ, ◌-◌, ◌==◌, Bool, true, false, cond, nat_le, List, [], Option, Some, None}
use Rattle.std.specs.List.{AllByRecursion}
use Rattle.mesh_base.specs.declared.address.Mac.{Mac}
use Rattle.mesh_base.specs.declared.event.Event.TheVariants.{Pinged, Traced}
use Rattle.mesh_base.specs.declared.event.PingResult.{PingResult}
use Rattle.mesh_base.specs.declared.event.TraceResult.{TraceResult}
use Rattle.mesh_base.specs.declared.event.TraceResult.TheVariants.{NoRoute}
use Rattle.mesh_base.specs.declared.event.PingResult.TheVariants as pings
use Rattle.mesh_model.specs.declared.act.Act.{Act}
use Rattle.mesh_model.specs.declared.act.Act.TheVariants.{Print}
use Rattle.mesh_model.specs.declared.probe.OpenProbe.{OpenProbe}
use Rattle.mesh_model.specs.declared.probe.Probe.{Probe}
use Rattle.mesh_model.specs.declared.probe.Told.{Told}
use Rattle.mesh_model.specs.declared.probe.Told.TheVariants.{Unknown, Done, Next}
use Rattle.mesh_model.specs.Acts.BridgeRows.{Place}
use Rattle.mesh_model.specs.Acts.Packing.{sent_over, sent_to}
use Rattle.mesh_model.specs.Acts.ProbeRows.{IcmpMessage, answered_acts, answer_event, answered_by, icmp_head, icmp_here, icmp_on_route, next_acts, passed_icmp, ping_result, probe_acts, request_of, session_acts, trace_result}
use Rattle.mesh_model.specs.Acts.Rows.{icmp_acts}
use Rattle.mesh_model.specs.Knowledge.Known.{Knowledge}
use Rattle.mesh_model.specs.Packets.Numbers.{destination_unreachable, echo_reply, echo_request, ttl_exceeded, first_ttl}
use Rattle.mesh_model.specs.Probes.OpenProbes.{first_probe, is_answer, probes_by, told}
use Rattle.mesh_model.specs.Routes.Addresses.{same_mac}
use Rattle.mesh_model.specs.Routes.Queries.{Queries}
use Rattle.mesh_model.specs.Routes.RouteLog.{RouteLog}

-- an act of ping or traceroute
pub data IsProbing : Act → Type 0 where
  puts_message : (next : Mac) (m : IcmpMessage) → IsProbing (sent_to next None (icmp_head m) [])
  puts_pinged : (node target : Mac) (seq : ℕ) (result : PingResult) → IsProbing (Print (Pinged node target seq result))
  puts_traced : (node target : Mac) (result : TraceResult) → IsProbing (Print (Traced node target result))

abbrev pub AreProbing : List Act → Type 0
AreProbing acts = AllByRecursion IsProbing acts

probing_if : (b : Bool) (xs ys : List Act) → AreProbing xs → AreProbing ys → AreProbing (cond b xs ys)
probing_if true xs ys a b = a
probing_if false xs ys a b = b

probing_over : (next : Option Mac) (m : IcmpMessage) → AreProbing (sent_over next (icmp_head m) [])
probing_over None m = tt
probing_over (Some next) m = (puts_message next m, tt)

probe_puts : (me : Mac) (trace : Bool) (probe : Probe) (next : Option Mac) → AreProbing (probe_acts me trace probe next)
probe_puts me true probe None = (puts_traced me probe.target NoRoute, tt)
probe_puts me false probe None = (puts_pinged me probe.target probe.seq pings.NoRoute, tt)
probe_puts me trace probe (Some next) = (puts_message next (request_of me trace probe), tt)

pub session_puts : (q : Queries) (known : Knowledge) (at : Place) (target : Mac) (trace : Bool) → AreProbing (session_acts q known at target trace)
unfolding session_acts
session_puts q known at target trace = probe_puts at.me trace (first_probe target trace (probes_by known.probes)) (q.route known.routes at.now target)

-- ---- messages
answered_puts : (at : Place) (m : IcmpMessage) (asked : OpenProbe) → IsProbing (Print (answer_event at m asked))
answered_puts at m asked = go asked.trace
  where
    go : (b : Bool) → IsProbing (Print (cond b (Traced at.me asked.probe.target (trace_result m asked.probe.ttl (at.now - asked.sent))) (Pinged at.me asked.probe.target asked.probe.seq (ping_result m (at.now - asked.sent)))))
    go true = puts_traced at.me asked.probe.target (trace_result m asked.probe.ttl (at.now - asked.sent))
    go false = puts_pinged at.me asked.probe.target asked.probe.seq (ping_result m (at.now - asked.sent))

next_puts : (q : Queries) (routes : RouteLog) (at : Place) (told : Told) → AreProbing (next_acts q routes at told)
next_puts q routes at Unknown = tt
next_puts q routes at (Done target sent hop) = tt
next_puts q routes at (Next hop sent probe) = probe_puts at.me true probe (q.route routes at.now probe.target)

answer_puts : (q : Queries) (known : Knowledge) (at : Place) (m : IcmpMessage) (o : Option OpenProbe) → AreProbing (answered_acts q known at m o)
answer_puts q known at m None = tt
answer_puts q known at m (Some asked) = (answered_puts at m asked, next_puts q known.routes at (told m.seq m.kind (probes_by known.probes)))

reply_puts : (q : Queries) (known : Knowledge) (at : Place) (kind : ℕ) (m : IcmpMessage) → AreProbing (answered_by q known at kind m)
reply_puts q known at kind m =
    let reply : IcmpMessage = record m { ttl = first_ttl; kind = kind; dst = m.orig; orig = at.me } in
    probing_if (m.kind == echo_request) (sent_over (q.route known.routes at.now m.orig) (icmp_head reply) []) [] (probing_over (q.route known.routes at.now m.orig) reply) tt

here_puts : (q : Queries) (known : Knowledge) (at : Place) (m : IcmpMessage) → AreProbing (icmp_here q known at m)
unfolding icmp_here
here_puts q known at m =
    let asked = (probes_by known.probes).waiting m.seq in
    probing_if (is_answer m.kind) (answered_acts q known at m asked) (answered_by q known at echo_reply m) (answer_puts q known at m asked) (reply_puts q known at echo_reply m)

route_puts : (q : Queries) (known : Knowledge) (at : Place) (m : IcmpMessage) (o : Option Mac) → AreProbing (icmp_on_route q known at m o)
route_puts q known at m None = reply_puts q known at destination_unreachable m
route_puts q known at m (Some next) = (puts_message next (record m { ttl = m.ttl - 1 }), tt)

passed_puts : (q : Queries) (known : Knowledge) (at : Place) (m : IcmpMessage) → AreProbing (passed_icmp q known at m)
unfolding passed_icmp
passed_puts q known at m =
    let next = q.route known.routes at.now m.dst in
    probing_if (nat_le m.ttl 1) (answered_by q known at ttl_exceeded m) (icmp_on_route q known at m next) (reply_puts q known at ttl_exceeded m) (route_puts q known at m next)

pub icmp_puts : (q : Queries) (known : Knowledge) (at : Place) (m : IcmpMessage) → AreProbing (icmp_acts q known at m)
icmp_puts q known at m = probing_if (same_mac m.dst at.me) (icmp_here q known at m) (passed_icmp q known at m) (here_puts q known at m) (passed_puts q known at m)
