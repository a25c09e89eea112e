-- What the steps of writing a packet leave.
use Rattle.std.specs.Prelude.{◌≡◌, ◌≤◌, ◌+◌, ℕ, List, [], ◌∷◌, ◌++◌}
use Rattle.std.specs.Global.{Vec}
use Rattle.std.specs.List.{flat_map, AllByRecursion}
use Rattle.std.specs.Vec.{vec_len, vec_capacity}
use Rattle.mesh_model.specs.declared.packet.Head.{Head}
use Rattle.mesh_model.specs.Packets.Layout.{Part, Fits, part_spelling}
use Rattle.mesh_model.specs.Packets.Shapes.{shape_of}
use Rattle.mesh_model.specs.Packets.Shapes.TailKind.{containers}
use Rattle.mesh_codec.specs.Encoding.{longest_containers}

-- the list has room for so many more bytes
abbrev pub HasRoom : Vec ℕ → ℕ → Type 0
HasRoom list more = vec_len list + more ≤ vec_capacity list

-- a part that fits was put at the end, and no room was given up
pub record Puts (old : Vec ℕ) (part : Part) (new : Vec ℕ) : Type 0 where
  pub fits : Fits part
  pub items : new.items ≡ old.items ++ part_spelling part
  pub room : vec_capacity old ≤ vec_capacity new

-- these parts were put at the end, one after the other
abbrev pub PutsParts : Vec ℕ → List Part → Vec ℕ → Type 0
PutsParts old [] new = new ≡ old
PutsParts old (part ∷ parts) new = (next : Vec ℕ) × Puts old part next × PutsParts next parts new

-- a header of these parts was put at the end, and no room was given up
pub record PutsHeader (old : Vec ℕ) (parts : List Part) (new : Vec ℕ) : Type 0 where
  pub fits : AllByRecursion Fits parts
  pub items : new.items ≡ old.items ++ flat_map part_spelling parts
  pub room : vec_capacity old ≤ vec_capacity new

-- a head whose header tells a length can tell this one
abbrev pub CanTell : Head → ℕ → Type 0
CanTell head len = (shape_of head).tail ≡ containers → len ≤ longest_containers
