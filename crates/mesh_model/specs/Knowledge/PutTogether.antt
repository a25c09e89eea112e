-- Fragments that come to the node that they are for. Each is noted; where one makes its packet
-- whole and that is a packet for one node, it is taken here as though it had come, whatever node it
-- names. A whole of another kind gives nothing. The main words are `put_together` and `after_part`.
use Rattle.std.specs.Prelude.{ℕ, List, ◌∷◌, Option, None, option_map, option_and_then, Result, Ok, Err}
use Rattle.mesh_model.specs.declared.link_frame.NoPacket.{NoPacket}
use Rattle.mesh_model.specs.Fragments.Assembly.{PartCall, made_whole}
use Rattle.mesh_model.specs.Fragments.Cutting.{Reach, reach_of_head}
use Rattle.mesh_model.specs.Knowledge.FactStore.{after_fact_message}
use Rattle.mesh_model.specs.Knowledge.Known.{Knowledge}
use Rattle.mesh_model.specs.Packets.FactMessages.{CameFact, fact_message_of}
use Rattle.mesh_model.specs.Packets.FirstPacket.{Front, first_packet}

-- a packet for one node: how many hops it has left, and what it carries
pub record Carried : Type 0 where
  pub ttl : ℕ
  pub payload : List ℕ

-- what a packet at the front of bytes carries, where it is for one node
abbrev pub carried_in : Result Front NoPacket → Option Carried
carried_in (Ok front) =
    option_map (λ (reach : Reach). record { ttl = reach.ttl; payload = front.packet.tail })
    (reach_of_head front.packet.head)
carried_in (Err cause) = None

-- what the packet carries that a part makes whole, after others
abbrev pub put_together : PartCall → List PartCall → Option Carried
put_together call older =
    option_and_then (λ bytes. carried_in (first_packet bytes)) (made_whole call older)

-- the message of the fact store that is carried, where one is
abbrev pub fact_carried : Option Carried → Option CameFact
fact_carried carried =
    option_and_then (λ (one : Carried). fact_message_of one.payload) carried

-- what is known with one part more
abbrev pub with_part : PartCall → Knowledge → Knowledge
with_part call known = record known { parts = call ∷ known.parts }

-- what is known after a part, which may make its packet whole
abbrev pub after_part : PartCall → Knowledge → Knowledge
after_part call known =
    after_fact_message call.moment (fact_carried (put_together call known.parts))
    (with_part call known)
