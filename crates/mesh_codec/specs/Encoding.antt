-- What `encode` asks and answers. A fragment's number and priority fit their byte. A packet can't
-- be written where its containers are longer than the header can tell, or where a tail is given to
-- a kind that has none. The main word is `HasObstacle`.
use Rattle.std.specs.Prelude.{◌≡◌, ℕ, ◌<◌, List, length, ⊤}
use Rattle.mesh_model.specs.declared.packet.Head.{Head}
use Rattle.mesh_model.specs.declared.packet.Head.TheVariants.{IvOgm, Bcast, Elp, Ogm2, Unicast, Frag, Unicast4, Icmp, Utvlv}
use Rattle.mesh_model.specs.Packets.Layout.{FitsFragmentByte}
use Rattle.mesh_model.specs.Packets.Shapes.{shape_of}
use Rattle.mesh_model.specs.Packets.Shapes.TailKind.{containers, nothing}
use Rattle.mesh_codec.specs.declared.failure.CodecErr.{CodecErr}
use Rattle.mesh_codec.specs.declared.failure.CodecErr.TheVariants.{Short, Version, Kind, Length, Long, Tail, Memory}

-- a head that is a fragment's has a number and a priority that fit
abbrev pub FitsFragment : Head → Type 0
FitsFragment (IvOgm ttl flags seq orig prev tq) = ⊤
FitsFragment (Bcast ttl seq orig) = ⊤
FitsFragment (Elp orig seq interval) = ⊤
FitsFragment (Ogm2 ttl flags seq orig throughput) = ⊤
FitsFragment (Unicast ttl ttvn dst) = ⊤
FitsFragment (Frag ttl index priority dst orig seq total) = FitsFragmentByte index priority
FitsFragment (Unicast4 ttl ttvn dst src subtype) = ⊤
FitsFragment (Icmp ttl msg dst orig uid seq) = ⊤
FitsFragment (Utvlv ttl dst src) = ⊤

-- the greatest length of containers that two bytes tell
abbrev pub longest_containers : ℕ
longest_containers = 65535

-- the containers are longer than a header can tell
abbrev pub IsTooLong : Head → List ℕ → Type 0
IsTooLong head tail = ((shape_of head).tail ≡ containers) × (longest_containers < length tail)

-- there is a tail, and the kind has none
abbrev pub HasStrayTail : Head → List ℕ → Type 0
HasStrayTail head tail = ((shape_of head).tail ≡ nothing) × (0 < length tail)

-- why a packet can't be written; want of memory may come at any
abbrev pub HasObstacle : Head → List ℕ → CodecErr → Type 0
HasObstacle head tail (Short have need) = ⊥
HasObstacle head tail (Version version) = ⊥
HasObstacle head tail (Kind kind) = ⊥
HasObstacle head tail (Length told left) = ⊥
HasObstacle head tail (Long len) = (len ≡ length tail) × IsTooLong head tail
HasObstacle head tail (Tail len) = (len ≡ length tail) × HasStrayTail head tail
HasObstacle head tail Memory = ⊤
