-- The row of a packet that is an originator message.
use Rattle.std.proofs.Common.{◌≡◌, ◌⊎◌, inl, inr, ℕ, refl, sym, subst, Option, Result}
use Rattle.mesh_base.specs.declared.address.Mac.{Mac}
use Rattle.mesh_model.specs.declared.act.Act.{Act}
use Rattle.mesh_model.specs.declared.ending.LimitName.{LimitName}
use Rattle.mesh_model.specs.declared.packet.Head.{Head}
use Rattle.mesh_model.specs.declared.packet.Head.TheVariants.{IvOgm, Ogm2}
use Rattle.mesh_model.specs.Acts.Rows.{Own, head_acts, packet_acts, taken_acts}
use Rattle.mesh_model.specs.Knowledge.Known.{Knowledge}
use Rattle.mesh_model.specs.Knowledge.Steps.{Coming}
use Rattle.mesh_model.specs.Knowledge.Told.{message_by, message_with}
use Rattle.mesh_model.specs.Packets.Bodies.{TtData}
use Rattle.mesh_model.specs.Packets.Containers.{containers_of}
use Rattle.mesh_model.specs.Packets.Contents.{first_table}
use Rattle.mesh_model.specs.Packets.FirstPacket.{Packet}
use Rattle.mesh_model.specs.Routes.Queries.{Queries}
use Rattle.node_ground.specs.declared.failure.NodeErr.{NodeErr}
use Rattle.node_ground.specs.Puts.{Puts}

module _ {P : Type 0} (takes : P → Act → P → Type 0) (same : P → P → Type 0) (over : P → Act → Option LimitName) where
  row_by_head : (q : Queries) (me : Mac) (own : Own) (came : Coming) (known : Knowledge) (packet : Packet) (orig : Mac) (head : Head) (result : Result Unit NodeErr) (old new : P)
      → packet.head ≡ head
      → ((table : Option TtData) → head_acts q me own came known (message_by head table) packet.tail head ≡ taken_acts q me came head (message_with orig table) packet.tail known)
      → Puts takes same over old (taken_acts q me came packet.head (message_with orig (first_table (containers_of packet.tail))) packet.tail known) result new
      → Puts takes same over old (packet_acts q me own came known packet) result new
  unfolding packet_acts
  row_by_head q me own came known packet orig head result old new is row puts =
      let table = first_table (containers_of packet.tail) in
      subst (λ (h : Head). Puts takes same over old (head_acts q me own came known (message_by h table) packet.tail h) result new) (sym is)
      (subst (λ acts. Puts takes same over old acts result new) (sym (row table))
      (subst (λ (h : Head). Puts takes same over old (taken_acts q me came h (message_with orig table) packet.tail known) result new) is puts))

  -- the row of a packet that is an originator message
  pub ogm_row : (q : Queries) (me : Mac) (own : Own) (came : Coming) (known : Knowledge) (packet : Packet) (orig : Mac) (result : Result Unit NodeErr) (old new : P)
      → ((ttl : ℕ) × (flags : ℕ) × (seq : ℕ) × (prev : Mac) × (tq : ℕ) × (packet.head ≡ IvOgm ttl flags seq orig prev tq))
      ⊎ ((ttl : ℕ) × (flags : ℕ) × (seq : ℕ) × (throughput : ℕ) × (packet.head ≡ Ogm2 ttl flags seq orig throughput))
      → Puts takes same over old (taken_acts q me came packet.head (message_with orig (first_table (containers_of packet.tail))) packet.tail known) result new
      → Puts takes same over old (packet_acts q me own came known packet) result new
  ogm_row q me own came known packet orig result old new (inl w) puts =
      row_by_head q me own came known packet orig (IvOgm w.0 w.1 w.2 orig w.3 w.4) result old new w.5 (λ table. refl) puts
  ogm_row q me own came known packet orig result old new (inr w) puts =
      row_by_head q me own came known packet orig (Ogm2 w.0 w.1 w.2 orig w.3) result old new w.4 (λ table. refl) puts
