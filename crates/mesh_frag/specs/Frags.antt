-- How the assemblies that a node keeps stand for all parts that came, and what a part is answered.
-- Exactly those are kept that a part can still make whole. The main words are `FragsStand` and
-- `Answers`.
use Rattle.std.specs.Prelude.{◌≡◌, ◌==◌, ◌&&◌, Bool, ℕ, length, List, [], ◌∷◌, map, Option, None, Some, IsSomeAnd}
use Rattle.std.specs.List.{IsDistinct}
use Rattle.std.specs.Map.{keys_of, lookup}
use Rattle.mesh_model.specs.declared.packet.Head.{Head}
use Rattle.mesh_model.specs.declared.packet.Head.TheVariants.{IvOgm, Bcast, Elp, Ogm2, Unicast, Frag, Unicast4, Icmp, Utvlv}
use Rattle.mesh_model.specs.Packets.Layout.{FitsFragmentByte}
use Rattle.mesh_model.specs.Fragments.Assembly.{Assembly, PartCall, assembly, made_whole, part_of, standing}
use Rattle.mesh_model.specs.Routes.Addresses.{same_mac}
use Rattle.mesh_laws.specs.Rising.{RiseWithin}
use Rattle.mesh_frag.specs.declared.frag.Frag.{Frag as FragTold}
use Rattle.mesh_frag.specs.declared.frag.Frag.TheVariants.{Open, Whole}
use Rattle.mesh_frag.specs.declared.frags.AssemblyKey.{AssemblyKey}

-- a head is that of a fragment, and can be written
abbrev pub HeadsFragment : Head → Type 0
HeadsFragment (IvOgm ttl flags seq orig prev tq) = ⊥
HeadsFragment (Bcast ttl seq orig) = ⊥
HeadsFragment (Elp orig seq interval) = ⊥
HeadsFragment (Ogm2 ttl flags seq orig throughput) = ⊥
HeadsFragment (Unicast ttl ttvn dst) = ⊥
HeadsFragment (Frag ttl number priority dst orig seq total) = FitsFragmentByte number priority
HeadsFragment (Unicast4 ttl ttvn dst src subtype) = ⊥
HeadsFragment (Icmp ttl msg dst orig uid seq) = ⊥
HeadsFragment (Utvlv ttl dst src) = ⊥

-- the part that a packet with this head and tail is at a moment, where it is a fragment
abbrev pub part_of_head : ℕ → Head → List ℕ → Option PartCall
part_of_head now (IvOgm ttl flags seq orig prev tq) tail = None
part_of_head now (Bcast ttl seq orig) tail = None
part_of_head now (Elp orig seq interval) tail = None
part_of_head now (Ogm2 ttl flags seq orig throughput) tail = None
part_of_head now (Unicast ttl ttvn dst) tail = None
part_of_head now (Frag ttl number priority dst orig seq total) tail =
    Some (part_of now orig seq total number tail)
part_of_head now (Unicast4 ttl ttvn dst src subtype) tail = None
part_of_head now (Icmp ttl msg dst orig uid seq) tail = None
part_of_head now (Utvlv ttl dst src) tail = None

-- the assemblies that are kept, each by what it is known by
abbrev pub Rows : Type 0
Rows = List (AssemblyKey × Assembly)

-- whether two assemblies are known by the same
abbrev pub same_assembly : AssemblyKey → AssemblyKey → Bool
same_assembly a b = same_mac a.orig b.orig && ((a.seq == b.seq) && (a.total == b.total))

-- what is open by the parts that came, newest first
abbrev pub assembly_of : List PartCall → AssemblyKey → Option Assembly
assembly_of calls key = assembly calls key.orig key.seq key.total

-- the moments at which assemblies were opened
abbrev pub opened_moments : Rows → List ℕ
opened_moments rows = map (λ (row : AssemblyKey × Assembly). row.1.opened) rows

-- the moment of the newest part
abbrev pub newest_moment : List PartCall → ℕ
newest_moment [] = 0
newest_moment (call ∷ older) = call.moment

-- what is kept is that after these parts
pub record FragsStand (rows : Rows) (calls : List PartCall) : Type 0 where
  -- what is open, and stays open at the moment of the newest part
  pub kept : (key : AssemblyKey) →
      lookup (same_assembly key) rows ≡ standing (newest_moment calls) (assembly_of calls key)
  -- in the order of opening
  pub ordered : RiseWithin 0 (opened_moments rows) (newest_moment calls)
  -- each once
  pub once : IsDistinct same_assembly (keys_of rows)

-- an answer to a part, after others: the packet that it makes whole; or, where it makes none whole,
-- how many places came of what is open then
abbrev pub Answers : PartCall → List PartCall → FragTold → Type 0
Answers call older (Whole bytes) = made_whole call older ≡ Some bytes
Answers call older (Open have) = (made_whole call older ≡ None)
    × IsSomeAnd (assembly (call ∷ older) call.orig call.seq call.total)
    (λ assembly. have ≡ length assembly.parts)
