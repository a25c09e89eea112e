-- What is asked of a routing algorithm, so that an originator message stays its originator's: one
-- that a node begins names the node, one that it sends on names the originator that it came with,
-- and no other stands where an ELP does. The main word is `KeepsOriginators`.
use Rattle.std.specs.Prelude.{◌≡◌, ℕ, true, length, Some, ⊤}
use Rattle.mesh_base.specs.declared.address.Mac.{Mac}
use Rattle.mesh_model.specs.declared.packet.Head.{Head}
use Rattle.mesh_model.specs.declared.packet.Head.TheVariants.{IvOgm, Bcast, Elp, Ogm2, Unicast, Frag, Unicast4, Icmp, Utvlv}
use Rattle.mesh_model.specs.Routes.Queries.{Queries, is_elp}
use Rattle.mesh_model.specs.Routes.RouteLog.{RouteLog}

-- an address of six bytes
abbrev pub IsWhole : Mac → Type 0
IsWhole mac = length mac.0 ≡ 6

-- what a packet is to tables: an originator message, by its originator; containers for one node, by
-- the node that sent them; or nothing
pub data Word : Type 0 where
  MessageOf : Mac → Word
  ContainersOf : Mac → Word
  Nothing : Word

-- what a packet is to tables, by its head
abbrev pub word_of : Head → Word
word_of (IvOgm ttl flags seq orig prev tq) = MessageOf orig
word_of (Bcast ttl seq orig) = Nothing
word_of (Elp orig seq interval) = Nothing
word_of (Ogm2 ttl flags seq orig throughput) = MessageOf orig
word_of (Unicast ttl ttvn dst) = Nothing
word_of (Frag ttl number priority dst orig seq total) = Nothing
word_of (Unicast4 ttl ttvn dst src subtype) = Nothing
word_of (Icmp ttl msg dst orig uid seq) = Nothing
word_of (Utvlv ttl dst src) = ContainersOf src

-- the addresses of an originator message, or of containers for one node, are whole
abbrev pub HasWholeAddresses : Head → Type 0
HasWholeAddresses (IvOgm ttl flags seq orig prev tq) = IsWhole orig × IsWhole prev
HasWholeAddresses (Bcast ttl seq orig) = ⊤
HasWholeAddresses (Elp orig seq interval) = ⊤
HasWholeAddresses (Ogm2 ttl flags seq orig throughput) = IsWhole orig
HasWholeAddresses (Unicast ttl ttvn dst) = ⊤
HasWholeAddresses (Frag ttl number priority dst orig seq total) = ⊤
HasWholeAddresses (Unicast4 ttl ttvn dst src subtype) = ⊤
HasWholeAddresses (Icmp ttl msg dst orig uid seq) = ⊤
HasWholeAddresses (Utvlv ttl dst src) = IsWhole dst × IsWhole src

-- an originator message of an originator, with whole addresses
pub record IsMessageOf (orig : Mac) (head : Head) : Type 0 where
  pub word : word_of head ≡ MessageOf orig
  pub addresses : HasWholeAddresses head

-- the algorithm of the node of an address keeps originator messages their originators'
pub record KeepsOriginators (me : Mac) (q : Queries) : Type 0 where
  -- one that is begun is the node's own
  pub own : (log : RouteLog) (index : ℕ) (head : Head) → IsWhole me →
      (q.beats log index).ogm ≡ Some head → IsMessageOf me head
  -- one that is sent on is of the originator that it came with
  pub onward : (log : RouteLog) (moment : ℕ) (from : Mac) (throughput : ℕ) (head sent : Head)
      (orig : Mac) → IsWhole from → IsMessageOf orig head →
      (q.hear log moment from throughput head).forward ≡ Some sent → IsMessageOf orig sent
  -- what is sent at a tick as an ELP is one
  pub elps : (log : RouteLog) (index : ℕ) (head : Head) →
      (q.beats log index).elp ≡ Some head → is_elp head ≡ true
