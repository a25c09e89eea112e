-- The first three of a list as an array. The main word is `first_three`.
use Rattle.std.specs.Prelude.{List, [], ◌∷◌, Option, slice_get}
use Rattle.mesh_base.specs.declared.address.Mac.{Mac}

-- the first three of some nodes
abbrev pub first_three : List Mac → List (Option Mac)
first_three nodes = slice_get nodes 0 ∷ slice_get nodes 1 ∷ slice_get nodes 2 ∷ []
