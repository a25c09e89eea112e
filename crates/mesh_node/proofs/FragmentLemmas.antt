-- Packets that are put together here.
use Rattle.std.proofs.Common.{◌≡◌, ℕ, List, ◌∷◌, ◌++◌, Option, Some, None, option_and_then, option_map, Result, Ok, Err, refl, sym, ap, ap₂, ◌∙◌}
use Rattle.std.proofs.lemmas.Option.{same_Some}
use Rattle.mesh_base.specs.declared.address.Mac.{Mac}
use Rattle.mesh_codec.proofs.Decoded.{no_cause}
use Rattle.mesh_codec.specs.Decoding.{HasCause}
use Rattle.mesh_codec.specs.declared.failure.CodecErr.{CodecErr}
use Rattle.mesh_frag.specs.Frags.{FragsStand, Rows}
use Rattle.mesh_laws.proofs.FirstPacketLemmas.{first_packet-found}
use Rattle.mesh_model.specs.declared.act.Act.{Act}
use Rattle.mesh_model.specs.declared.link_frame.NoPacket.{NoPacket}
use Rattle.mesh_model.specs.declared.packet.Head.{Head}
use Rattle.mesh_model.specs.Acts.BridgeRows.{Place}
use Rattle.mesh_model.specs.Acts.FactRows.{fact_acts}
use Rattle.mesh_model.specs.Acts.FragmentRows.{carried_here}
use Rattle.mesh_model.specs.Acts.FrameRows.{here_acts}
use Rattle.mesh_model.specs.Clients.Lans.{Bridge}
use Rattle.mesh_model.specs.Clients.Mentions.{Mention}
use Rattle.mesh_model.specs.Fragments.Assembly.{PartCall, made_whole}
use Rattle.mesh_model.specs.Fragments.Cutting.{Reach, reach_of_head}
use Rattle.mesh_model.specs.Knowledge.Known.{Knowledge}
use Rattle.mesh_model.specs.Knowledge.PutTogether.{Carried, carried_in, put_together, with_part}
use Rattle.mesh_model.specs.Packets.FactMessages.{CameFact, fact_message_of}
use Rattle.mesh_model.specs.Packets.FirstPacket.{Front, first_packet}
use Rattle.mesh_model.specs.Packets.Layout.{IsPacket}
use Rattle.mesh_model.specs.Routes.Queries.{Queries}
use Rattle.mesh_model.specs.Routes.RouteLog.{RouteLog}
use Rattle.node_ground.specs.declared.knowledge.NodeKnowledge.{NodeKnowledge}
use Rattle.node_ground.specs.KnowledgeStands.{KnowledgeStands}

-- ---- what bytes carry
-- where no packet begins the bytes, they carry none
pub none_carried : (bytes : List ℕ) (error : CodecErr) → HasCause bytes error → carried_in (first_packet bytes) ≡ None
none_carried bytes error cause = go (first_packet bytes) refl
  where
    go : (r : Result Front NoPacket) → first_packet bytes ≡ r → carried_in r ≡ None
    go (Ok front) is = absurd (no_cause bytes front error is cause)
    go (Err no_packet) is = refl

-- by its head
abbrev carried_by : List ℕ → Option Reach → Option Carried
carried_by tail reach = option_map (λ (reach : Reach). record { ttl = reach.ttl; payload = tail }) reach

carried_head : (bytes : List ℕ) (head : Head) (tail : List ℕ) (used : ℕ) → IsPacket bytes head tail used → carried_in (first_packet bytes) ≡ carried_by tail (reach_of_head head)
carried_head bytes head tail used is = ap carried_in (first_packet-found bytes head tail used is)

-- these are the hops and the receiver of a packet's reach
abbrev IsReach : Option (ℕ × Mac) → Option Reach → Type 0
IsReach pair reach = pair ≡ option_map (λ (reach : Reach). (reach.ttl, reach.dst)) reach

-- nor is one for a node where its head is for none
pub another_carried : (bytes : List ℕ) (head : Head) (tail : List ℕ) (used : ℕ) → IsPacket bytes head tail used → IsReach None (reach_of_head head) → carried_in (first_packet bytes) ≡ None
another_carried bytes head tail used is none = carried_head bytes head tail used is ∙ go (reach_of_head head) none
  where
    go : (reach : Option Reach) → IsReach None reach → carried_by tail reach ≡ None
    go None none = refl
    go (Some reach) none = absurd cc

-- a packet for one node carries its tail
pub one_carried : (bytes : List ℕ) (head : Head) (tail : List ℕ) (used ttl : ℕ) (dst : Mac) → IsPacket bytes head tail used → IsReach (Some (ttl, dst)) (reach_of_head head)
    → carried_in (first_packet bytes) ≡ Some (record { ttl = ttl; payload = tail })
one_carried bytes head tail used ttl dst is some = carried_head bytes head tail used is ∙ go (reach_of_head head) some
  where
    go : (reach : Option Reach) → IsReach (Some (ttl, dst)) reach → carried_by tail reach ≡ Some (record { ttl = ttl; payload = tail })
    go None some = absurd cc
    go (Some reach) some = ap (λ n. Some (record { ttl = n; payload = tail })) (sym (ap (λ (pair : ℕ × Mac). pair.0) (same_Some {A = ℕ × Mac} (ttl, dst) (reach.ttl, reach.dst) some)))

-- ---- with one part more
frame_same : (q : Queries) (call : PartCall) (known : Knowledge) (mentions : List Mention) (bridge : Bridge) (at : Place) (ttl : ℕ) (payload : List ℕ)
    → here_acts q (with_part call known) mentions bridge at ttl payload ≡ here_acts q known mentions bridge at ttl payload
unfolding here_acts
frame_same q call known mentions bridge at ttl payload = refl

fact_same : (q : Queries) (call : PartCall) (known : Knowledge) (at : Place) (came : Option CameFact) → fact_acts q (with_part call known) at came ≡ fact_acts q known at came
unfolding fact_acts
fact_same q call known at came = refl

-- the parts that came change nothing of what a packet gives
pub carried_same : (q : Queries) (call : PartCall) (known : Knowledge) (mentions : List Mention) (bridge : Bridge) (at : Place) (carried : Option Carried)
    → carried_here q (with_part call known) mentions bridge at carried ≡ carried_here q known mentions bridge at carried
carried_same q call known mentions bridge at None = refl
carried_same q call known mentions bridge at (Some carried) =
    ap₂ (λ (xs ys : List Act). xs ++ ys) (frame_same q call known mentions bridge at carried.ttl carried.payload) (fact_same q call known at (fact_message_of carried.payload))

-- what a packet gives that a part made whole is what the part gives
pub whole_acts_are : (q : Queries) (call : PartCall) (known : Knowledge) (mentions : List Mention) (bridge : Bridge) (at : Place) (bytes slice : List ℕ) → made_whole call known.parts ≡ Some bytes → slice ≡ bytes
    → carried_here q (with_part call known) mentions bridge at (carried_in (first_packet slice)) ≡ carried_here q known mentions bridge at (put_together call known.parts)
whole_acts_are q call known mentions bridge at bytes slice whole same =
    carried_same q call known mentions bridge at (carried_in (first_packet slice))
    ∙ ap (λ (b : List ℕ). carried_here q known mentions bridge at (carried_in (first_packet b))) same
    ∙ ap (λ (o : Option (List ℕ)). carried_here q known mentions bridge at (option_and_then (λ (b : List ℕ). carried_in (first_packet b)) o)) (sym whole)

-- what is kept, with one part more
pub part_stands : {A : Type 0} (stands : A → Mac → RouteLog → Type 0) (kept : NodeKnowledge A) (frags : Rows) (me : Mac) (call : PartCall) (known : Knowledge) → KnowledgeStands stands kept me known
    → FragsStand frags (call ∷ known.parts) → KnowledgeStands stands (record kept { frags = frags }) me (with_part call known)
part_stands stands kept frags me call known is parts = record {
  routes = is.routes;
  tables = is.tables;
  marks = is.marks;
  probes = is.probes;
  taken = is.taken;
  parts = parts;
  sent = is.sent;
  services = is.services;
}
