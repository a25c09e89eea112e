-- A packet for one node that is longer than a node may put goes as fragments. Their tails are its
-- bytes in order, each but the last as long as fits into a packet of the greatest length. Each head
-- has the packet's hops and receiver, the node that cuts as originator, the number of the cut, the
-- fragment's place from 0, priority 0, and the packet's length. The main word is `fragments`.
use Rattle.std.specs.Prelude.{ℕ, ◌-◌, ◌*◌, ◌<◌, ◌≤◌, ◌^◌, List, [], length, map, Option, None, Some, IsSome, Result, Ok, Err}
use Rattle.std.specs.Int.{div_ceil}
use Rattle.std.specs.List.{enumerate_from}
use Rattle.mesh_base.specs.declared.address.Mac.{Mac}
use Rattle.mesh_model.specs.declared.link_frame.NoPacket.{NoPacket}
use Rattle.mesh_model.specs.declared.packet.Head.{Head}
use Rattle.mesh_model.specs.declared.packet.Head.TheVariants.{IvOgm, Bcast, Elp, Ogm2, Unicast, Frag, Unicast4, Icmp, Utvlv}
use Rattle.mesh_model.specs.Packets.Bodies.{pieces}
use Rattle.mesh_model.specs.Packets.FirstPacket.{Front, first_packet}
use Rattle.mesh_model.specs.Packets.Shapes.{frag, header_size}
use Rattle.mesh_model.specs.Scenario.SettingForms.{least_longest}

-- the bytes of a fragment's header
abbrev pub frag_head_size : ℕ
frag_head_size = header_size frag

-- the least that the greatest length of a packet may be
abbrev pub least_most : ℕ
least_most = least_longest

-- how many fragments a packet has at most
abbrev pub most_fragments : ℕ
most_fragments = 16

-- how many cuts a node makes at most
abbrev pub cuts_limit : ℕ
cuts_limit = 65535

-- a cut: the greatest length of a packet that goes whole, the number of the cut, the node that
-- cuts, and the bytes of the packet
pub record Cut : Type 0 where
  pub most : ℕ
  pub number : ℕ
  pub me : Mac
  pub packet : List ℕ

-- ---- tails

-- the bytes of a fragment's tail, unless it is the last
abbrev pub tail_size : ℕ → ℕ
tail_size most = most - frag_head_size

-- how many fragments a packet has
abbrev pub fragment_count : ℕ → List ℕ → ℕ
fragment_count most packet = div_ceil (length packet) (tail_size most)

-- the tails of the fragments of a packet, in order
abbrev pub tails : ℕ → List ℕ → List (List ℕ)
tails most packet = pieces (fragment_count most packet) (tail_size most) packet

-- ---- heads

-- how many hops a packet for one node has left, and where it goes
pub record Reach : Type 0 where
  pub ttl : ℕ
  pub dst : Mac

-- those of a head, where its packet is for one node
abbrev pub reach_of_head : Head → Option Reach
reach_of_head (IvOgm ttl flags seq orig prev tq) = None
reach_of_head (Bcast ttl seq orig) = None
reach_of_head (Elp orig seq interval) = None
reach_of_head (Ogm2 ttl flags seq orig throughput) = None
reach_of_head (Unicast ttl ttvn dst) = Some (record { ttl = ttl; dst = dst })
reach_of_head (Frag ttl number priority dst orig seq total) = None
reach_of_head (Unicast4 ttl ttvn dst src subtype) = None
reach_of_head (Icmp ttl msg dst orig uid seq) = None
reach_of_head (Utvlv ttl dst src) = None

-- those of the packet at the front of bytes
abbrev pub reach_of_front : Result Front NoPacket → Option Reach
reach_of_front (Ok front) = reach_of_head front.packet.head
reach_of_front (Err cause) = None

-- those of the packet that bytes begin with
abbrev pub reach_of : List ℕ → Option Reach
reach_of bytes = reach_of_front (first_packet bytes)

-- the fragment of a cut with this place and tail
abbrev pub fragment_of : Cut → Reach → ℕ × List ℕ → Head × List ℕ
fragment_of cut reach placed =
    (Frag reach.ttl placed.0 0 reach.dst cut.me cut.number (length cut.packet), placed.1)

-- the fragments of a cut of a packet that goes so far; none of one that isn't for one node
abbrev pub fragments_within : Cut → Option Reach → List (Head × List ℕ)
fragments_within cut None = []
fragments_within cut (Some reach) =
    map (fragment_of cut reach) (enumerate_from 0 (tails cut.most cut.packet))

-- the fragments of a cut, in order, each with its tail
abbrev pub fragments : Cut → List (Head × List ℕ)
fragments cut = fragments_within cut (reach_of cut.packet)

-- a cut can be made: of a packet for one node that is too long to go whole, and not for fragments
pub record CanBeMade (cut : Cut) : Type 0 where
  pub wide : least_most ≤ cut.most
  pub long : cut.most < length cut.packet
  pub held : length cut.packet ≤ most_fragments * tail_size cut.most
  pub told : length cut.packet < 2 ^ 16
  pub unicast : IsSome (reach_of cut.packet)
