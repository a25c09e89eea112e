-- The OGMs of algorithm IV. A node hears those of other originators that it didn't itself send on,
-- that don't say that their sender isn't the best next hop, and whose quality isn't 0. An own OGM
-- that comes back with DIRECTLINK, after it was sent, is an echo. The main words are `passes` and
-- `is_echo`.
use Rattle.std.specs.Prelude.{ℕ, ◌&&◌, ◌==◌, nat_le, nat_lt, bit_and, Bool, not, Option, Some, None}
use Rattle.mesh_base.specs.declared.address.Mac.{Mac}
use Rattle.mesh_model.specs.declared.packet.Head.{Head}
use Rattle.mesh_model.specs.declared.packet.Head.TheVariants.{IvOgm, Bcast, Elp, Ogm2, Unicast, Frag, Unicast4, Icmp, Utvlv}
use Rattle.mesh_model.specs.Packets.Numbers.{not_best_next_hop_flag, directlink_flag}
use Rattle.mesh_model.specs.Routes.Addresses.{same_mac}

-- an OGM of algorithm IV, its fields as in the head
pub record Ogm : Type 0 where
  pub ttl : ℕ
  pub flags : ℕ
  pub seq : ℕ
  pub orig : Mac
  pub prev : Mac
  pub tq : ℕ

-- the OGM that a head is
abbrev pub ogm_of_head : Head → Option Ogm
ogm_of_head (IvOgm ttl flags seq orig prev tq) = Some (record {
  ttl = ttl;
  flags = flags;
  seq = seq;
  orig = orig;
  prev = prev;
  tq = tq;
})
ogm_of_head (Bcast ttl seq orig) = None
ogm_of_head (Elp orig seq interval) = None
ogm_of_head (Ogm2 ttl flags seq orig throughput) = None
ogm_of_head (Unicast ttl ttvn dst) = None
ogm_of_head (Frag ttl number priority dst orig seq total) = None
ogm_of_head (Unicast4 ttl ttvn dst src subtype) = None
ogm_of_head (Icmp ttl msg dst orig uid seq) = None
ogm_of_head (Utvlv ttl dst src) = None

-- whether a flag is set
abbrev pub has_flag : ℕ → ℕ → Bool
has_flag flag flags = not (bit_and flags flag == 0)

-- whether an OGM is heard at the node of this address
abbrev pub passes : Mac → Ogm → Bool
passes me m =
    not (same_mac m.orig me)
    && (not (same_mac m.prev me)
    && (not (has_flag not_best_next_hop_flag m.flags) && nat_lt 0 m.tq))

-- whether an OGM is an echo at the node of this address, whose own last number is `last`
abbrev pub is_echo : Mac → ℕ → Ogm → Bool
is_echo me last m =
    same_mac m.orig me
    && (has_flag directlink_flag m.flags && (nat_lt 0 m.seq && nat_le m.seq last))
