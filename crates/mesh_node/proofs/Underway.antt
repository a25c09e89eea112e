-- A link frame of which the first packets were taken: what is then known, and where the port stands.
use Rattle.std.proofs.Common.{◌≡◌, ℕ, List, [], ◌∷◌, refl, subst, Option, Result, Ok, Err}
use Rattle.mesh_base.specs.declared.address.Mac.{Mac}
use Rattle.mesh_model.specs.declared.act.Act.{Act}
use Rattle.mesh_model.specs.declared.ending.LimitName.{LimitName}
use Rattle.mesh_model.specs.Acts.Rows.{Own, packet_acts, packets_acts}
use Rattle.mesh_model.specs.Knowledge.Known.{Knowledge}
use Rattle.mesh_model.specs.Knowledge.Steps.{Coming, after_packet, after_packets}
use Rattle.mesh_model.specs.Packets.FirstPacket.{Packet}
use Rattle.mesh_model.specs.Routes.Queries.{Queries}
use Rattle.mesh_model.specs.Routes.RouteLog.{RouteLog}
use Rattle.node_ground.specs.declared.coming.Coming as arrived
use Rattle.node_ground.specs.declared.failure.NodeErr.{NodeErr}
use Rattle.node_ground.specs.declared.knowledge.NodeKnowledge.{NodeKnowledge}
use Rattle.node_ground.specs.KnowledgeStands.{KnowledgeStands, coming}
use Rattle.node_ground.specs.OwnStands.{OwnStands}
use Rattle.node_ground.specs.Puts.{Puts}
use Rattle.node_ground.proofs.PutsLemmas.{puts_behind, stops_among}
use Rattle.node_lans.specs.BridgeStands.{BridgeStands}
use Rattle.node_lans.specs.declared.bridge.Bridge as kept_bridge
use Rattle.mesh_node.specs.Past.{IsPast}
use Rattle.mesh_node.proofs.PartMoments.{packet_past}
use Rattle.tt_local.specs.Locals.{LocalsView}

module _ {A P : Type 0} (stands : A → Mac → RouteLog → Type 0) (queries : Mac → Queries)
    (takes : P → Act → P → Type 0) (same : P → P → Type 0) (over : P → Act → Option LimitName)
    (locals : LocalsView) (bridge : kept_bridge.Bridge) (me : Mac) (came : arrived.Coming) where
  -- what the rest leaves is what the whole leaves, by what is known before the whole and before the rest
  pub record IsBetween (way : Coming) (whole rest : List Packet) (begin here : Knowledge) (old mid : P) : Type 0 where
    pub heard : after_packets (queries me) me way here rest ≡ after_packets (queries me) me way begin whole
    pub puts : (own : Own) → OwnStands locals own came.now → BridgeStands bridge me own.bridge → (result : Result Unit NodeErr) (new : P)
        → Puts takes same over mid (packets_acts (queries me) me own way here rest) result new
        → Puts takes same over old (packets_acts (queries me) me own way begin whole) result new

  -- what is kept and a port behind the packets before the rest
  pub record IsUnderway (whole rest : List Packet) (first kept : NodeKnowledge A) (old mid : P) : Type 0 where
    pub each : (known : Knowledge) (number : ℕ) → KnowledgeStands stands first me known → IsPast known came.now
        → (here : Knowledge) × KnowledgeStands stands kept me here × IsPast here came.now × IsBetween (coming came number) whole rest known here old mid

  -- before the first
  pub begins : (whole : List Packet) (kept : NodeKnowledge A) (port : P) → IsUnderway whole whole kept kept port port
  begins whole kept port = record {
    each = λ known number is before. (known, is, before, record { heard = refl; puts = λ own owns bridged result new puts. puts });
  }

  -- behind one more
  pub goes_on : (whole rest : List Packet) (packet : Packet) (first kept next : NodeKnowledge A) (old mid new : P) → IsUnderway whole (packet ∷ rest) first kept old mid
      → ((known : Knowledge) (number : ℕ) → KnowledgeStands stands kept me known → IsPast known came.now → KnowledgeStands stands next me (after_packet (queries me) me (coming came number) known packet))
      → ((known : Knowledge) (own : Own) (number : ℕ) → KnowledgeStands stands kept me known → IsPast known came.now → OwnStands locals own came.now → BridgeStands bridge me own.bridge
      → Puts takes same over mid (packet_acts (queries me) me own (coming came number) known packet) (Ok tt) new)
      → IsUnderway whole rest first next old new
  unfolding packets_acts
  goes_on whole rest packet first kept next old mid new way noted put = record {
    each = λ known number is before.
        let at = way.each known number is before in
        let then : Knowledge = after_packet (queries me) me (coming came number) at.0 packet in (
          then,
          noted at.0 number at.1 at.2,
          packet_past (queries me) me (coming came number) at.0 packet at.2,
          record {
            heard = at.3.heard;
            puts = λ own owns bridged result end puts. at.3.puts own owns bridged result end
                (puts_behind takes same over mid new end (packet_acts (queries me) me own (coming came number) at.0 packet)
                (packets_acts (queries me) me own (coming came number) then rest) result (put at.0 own number at.1 at.2 owns bridged) puts);
          },
        );
  }

  -- it stops at one
  pub stops : (whole rest : List Packet) (packet : Packet) (first kept : NodeKnowledge A) (old mid new : P) (error : NodeErr)
      → IsUnderway whole (packet ∷ rest) first kept old mid
      → ((known : Knowledge) (own : Own) (number : ℕ) → KnowledgeStands stands kept me known → IsPast known came.now → OwnStands locals own came.now → BridgeStands bridge me own.bridge
      → Puts takes same over mid (packet_acts (queries me) me own (coming came number) known packet) (Err error) new)
      → (known : Knowledge) (own : Own) (number : ℕ) → KnowledgeStands stands first me known → IsPast known came.now → OwnStands locals own came.now → BridgeStands bridge me own.bridge
      → Puts takes same over old (packets_acts (queries me) me own (coming came number) known whole) (Err error) new
  unfolding packets_acts
  stops whole rest packet first kept old mid new error way put known own number is before owns bridged =
      let at = way.each known number is before in
      at.3.puts own owns bridged (Err error) new (stops_among takes same over error mid new (packet_acts (queries me) me own (coming came number) at.0 packet)
      (packets_acts (queries me) me own (coming came number) (after_packet (queries me) me (coming came number) at.0 packet) rest) (put at.0 own number at.1 at.2 owns bridged))

  -- behind the last
  pub ends_noted : (whole : List Packet) (first kept : NodeKnowledge A) (old mid : P) → IsUnderway whole [] first kept old mid
      → (known : Knowledge) (number : ℕ) → KnowledgeStands stands first me known → IsPast known came.now
      → KnowledgeStands stands kept me (after_packets (queries me) me (coming came number) known whole)
  ends_noted whole first kept old mid way known number is before =
      let at = way.each known number is before in
      subst (λ here. KnowledgeStands stands kept me here) at.3.heard at.1

  pub ends_put : (whole : List Packet) (first kept : NodeKnowledge A) (old mid : P) → IsUnderway whole [] first kept old mid
      → (known : Knowledge) (own : Own) (number : ℕ) → KnowledgeStands stands first me known → IsPast known came.now → OwnStands locals own came.now → BridgeStands bridge me own.bridge
      → Puts takes same over old (packets_acts (queries me) me own (coming came number) known whole) (Ok tt) mid
  unfolding packets_acts
  ends_put whole first kept old mid way known own number is before owns bridged = (way.each known number is before).3.puts own owns bridged (Ok tt) mid refl
