-- What is known once a call of a probe was made; and what is put for a probe, for an answer to an
-- open one, and for a message on its way.
use Rattle.std.proofs.Common.{◌≡◌, List, [], ◌∷◌, ℕ, ◌-◌, ◌<◌, refl, sym, ap, subst, ◌∙◌, arith, Bool, false, Option, Some, None, Result}
use Rattle.std.specs.Prelude.{nat_le, if◌then◌else◌}
use Rattle.std.proofs.lemmas.Bool.Decides.{nat_tests}
use Rattle.mesh_base.specs.declared.address.Mac.{Mac}
use Rattle.mesh_base.specs.declared.event.Event.{Event}
use Rattle.mesh_icmp.specs.Sessions.{StandsFor as SessionsStand}
use Rattle.mesh_icmp.specs.Sessions.{Kept as Waiting}
use Rattle.mesh_model.specs.declared.act.Act.{Act}
use Rattle.mesh_model.specs.declared.act.Act.TheVariants.{Print}
use Rattle.mesh_model.specs.declared.ending.LimitName.{LimitName}
use Rattle.mesh_model.specs.declared.packet.Head.{Head}
use Rattle.mesh_model.specs.declared.probe.OpenProbe.{OpenProbe}
use Rattle.mesh_model.specs.declared.probe.Probe.{Probe}
use Rattle.mesh_model.specs.declared.probe.Told.{Told}
use Rattle.mesh_model.specs.Acts.BridgeRows.{Place}
use Rattle.mesh_model.specs.Acts.ProbeRows.{IcmpMessage, answered_acts, answer_event, answered_by, icmp_head, icmp_on_route, next_acts, passed_icmp, probe_acts, request_of}
use Rattle.mesh_model.specs.Acts.Packing.{sent_to}
use Rattle.mesh_model.specs.Knowledge.Known.{Knowledge}
use Rattle.mesh_model.specs.Probes.OpenProbes.{ProbeCall, probes_by, told}
use Rattle.mesh_model.specs.Packets.Numbers.{ttl_exceeded}
use Rattle.mesh_model.specs.Routes.Queries.{Queries}
use Rattle.mesh_model.specs.Routes.RouteLog.{RouteLog}
use Rattle.node_ground.specs.declared.failure.NodeErr.{NodeErr}
use Rattle.node_ground.specs.declared.knowledge.NodeKnowledge.{NodeKnowledge}
use Rattle.node_ground.specs.KnowledgeStands.{KnowledgeStands}
use Rattle.node_ground.specs.Puts.{Puts}
use Rattle.node_ground.proofs.PutsLemmas.{puts_behind}

-- once the sessions took a call
pub with_sessions : {A : Type 0} {stands : A → Mac → RouteLog → Type 0} {kept : NodeKnowledge A} {sessions : Waiting} {me : Mac} {calls : List ProbeCall} {known : Knowledge} → KnowledgeStands stands kept me known
    → SessionsStand sessions calls → KnowledgeStands stands (record kept { sessions = sessions }) me (record known { probes = calls })
with_sessions is noted = record {
  routes = is.routes;
  tables = is.tables;
  marks = is.marks;
  probes = noted;
  taken = is.taken;
  parts = is.parts;
  sent = is.sent;
  services = is.services;
}

-- a probe goes to the neighbour on the way
pub probe_goes : {P : Type 0} (takes : P → Act → P → Type 0) (same : P → P → Type 0) (over : P → Act → Option LimitName)
    (me next : Mac) (trace : Bool) (probe : Probe) (route : Option Mac) (head : Head) (old new : P) (result : Result Unit NodeErr) → Some next ≡ route → head ≡ icmp_head (request_of me trace probe)
    → Puts takes same over old (sent_to next None head [] ∷ []) result new → Puts takes same over old (probe_acts me trace probe route) result new
probe_goes takes same over me next trace probe route head old new result route_is head_is puts =
    subst (λ acts. Puts takes same over old acts result new) (ap (λ h. sent_to next None h [] ∷ []) head_is ∙ ap (probe_acts me trace probe) route_is) puts

-- an answer to an open probe is printed, and what follows it is put behind
pub answer_puts : {P : Type 0} (takes : P → Act → P → Type 0) (same : P → P → Type 0) (over : P → Act → Option LimitName)
    (q : Queries) (known : Knowledge) (at : Place) (m : IcmpMessage) (asked : OpenProbe) (says : Told) (event : Event) (old mid new : P) (result : Result Unit NodeErr)
    → Some asked ≡ (probes_by known.probes).waiting m.seq → says ≡ told m.seq m.kind (probes_by known.probes) → event ≡ answer_event at m asked
    → takes old (Print event) mid → over old (Print event) ≡ None → Puts takes same over mid (next_acts q known.routes at says) result new
    → Puts takes same over old (answered_acts q known at m ((probes_by known.probes).waiting m.seq)) result new
answer_puts takes same over q known at m asked says event old mid new result open_is told_is event_is taken within puts =
    subst (λ acts. Puts takes same over old acts result new)
    (ap (λ e. Print e ∷ next_acts q known.routes at says) event_is
    ∙ ap (λ t. Print (answer_event at m asked) ∷ next_acts q known.routes at t) told_is
    ∙ ap (answered_acts q known at m) open_is)
    (puts_behind takes same over old mid new (Print event ∷ []) (next_acts q known.routes at says) result (mid, taken, within, refl) puts)

hops_left : (ttl : ℕ) → 1 < ttl → nat_le ttl 1 ≡ false
hops_left ttl more = grind (arith, nat_tests)

-- a message goes on to the neighbour on the way
pub message_goes : {P : Type 0} (takes : P → Act → P → Type 0) (same : P → P → Type 0) (over : P → Act → Option LimitName)
    (q : Queries) (known : Knowledge) (at : Place) (m : IcmpMessage) (next : Mac) (head : Head) (old new : P) (result : Result Unit NodeErr)
    → 1 < m.ttl → Some next ≡ q.route known.routes at.now m.dst → head ≡ icmp_head (record m { ttl = m.ttl - 1 })
    → Puts takes same over old (sent_to next None head [] ∷ []) result new → Puts takes same over old (passed_icmp q known at m) result new
unfolding passed_icmp
message_goes takes same over q known at m next head old new result more route_is head_is puts =
    subst (λ acts. Puts takes same over old acts result new)
    (ap (λ h. sent_to next None h [] ∷ []) head_is
    ∙ ap (icmp_on_route q known at m) route_is
    ∙ ap (λ b. if b then answered_by q known at ttl_exceeded m else icmp_on_route q known at m (q.route known.routes at.now m.dst)) (sym (hops_left m.ttl more)))
    puts
