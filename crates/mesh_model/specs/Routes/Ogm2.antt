-- The packets of algorithm V: the OGM, which tells a throughput, and the ELP, by which a neighbour
-- says that it is there. The main words are `ogm2_of_head` and `elp_of_head`.
use Rattle.std.specs.Prelude.{ℕ, Option, Some, None}
use Rattle.mesh_base.specs.declared.address.Mac.{Mac}
use Rattle.mesh_model.specs.declared.packet.Head.{Head}
use Rattle.mesh_model.specs.declared.packet.Head.TheVariants.{IvOgm, Bcast, Elp, Ogm2, Unicast, Frag, Unicast4, Icmp, Utvlv}

-- an OGM of algorithm V, its fields as in the head
pub record OgmV : Type 0 where
  pub ttl : ℕ
  pub flags : ℕ
  pub seq : ℕ
  pub orig : Mac
  pub throughput : ℕ

-- the OGM that a head is
abbrev pub ogm2_of_head : Head → Option OgmV
ogm2_of_head (IvOgm ttl flags seq orig prev tq) = None
ogm2_of_head (Bcast ttl seq orig) = None
ogm2_of_head (Elp orig seq interval) = None
ogm2_of_head (Ogm2 ttl flags seq orig throughput) = Some (record {
  ttl = ttl;
  flags = flags;
  seq = seq;
  orig = orig;
  throughput = throughput;
})
ogm2_of_head (Unicast ttl ttvn dst) = None
ogm2_of_head (Frag ttl number priority dst orig seq total) = None
ogm2_of_head (Unicast4 ttl ttvn dst src subtype) = None
ogm2_of_head (Icmp ttl msg dst orig uid seq) = None
ogm2_of_head (Utvlv ttl dst src) = None

-- the originator of the ELP that a head is
abbrev pub elp_of_head : Head → Option Mac
elp_of_head (IvOgm ttl flags seq orig prev tq) = None
elp_of_head (Bcast ttl seq orig) = None
elp_of_head (Elp orig seq interval) = Some orig
elp_of_head (Ogm2 ttl flags seq orig throughput) = None
elp_of_head (Unicast ttl ttvn dst) = None
elp_of_head (Frag ttl number priority dst orig seq total) = None
elp_of_head (Unicast4 ttl ttvn dst src subtype) = None
elp_of_head (Icmp ttl msg dst orig uid seq) = None
elp_of_head (Utvlv ttl dst src) = None
