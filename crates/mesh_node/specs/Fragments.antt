-- A fragment that came, as the definitions see it. The main words are `head_of` and `part_seen`.
use Rattle.std.specs.Prelude.{ℕ, List}
use Rattle.mesh_model.specs.declared.packet.Head.{Head}
use Rattle.mesh_model.specs.declared.packet.Head.TheVariants.{Frag}
use Rattle.mesh_model.specs.Fragments.Assembly.{PartCall, part_of}
use Rattle.mesh_node.specs.declared.fragments.Fragment.{Fragment}

-- its head
abbrev pub head_of : Fragment → Head
head_of fragment = Frag fragment.ttl fragment.number fragment.priority fragment.dst fragment.orig
    fragment.seq fragment.total

-- the part that it is at a moment, with its tail
abbrev pub part_seen : ℕ → Fragment → List ℕ → PartCall
part_seen now fragment tail =
    part_of now fragment.orig fragment.seq fragment.total fragment.number tail
