-- The line of a route: `route T NODE ORIG NEXT`, with a moment and addresses; NEXT is `-` where there
-- is no route. The main word is `route_text`.
use Rattle.std.specs.Prelude.{ℕ, List, [], ◌∷◌, codes, Option, Some, None}
use Rattle.mesh_base.specs.declared.address.Mac.{Mac}
use Rattle.mesh_model.specs.declared.route_line.RouteLine.{RouteLine}
use Rattle.mesh_model.specs.Text.PacketLines.{line_of, named_address, named_number}

-- a next node, or that there is none
abbrev pub next_text : Option Mac → List ℕ
next_text None = codes " -"
next_text (Some next) = named_address (codes " ") next

-- the line of a route
unfoldable pub route_text : RouteLine → List ℕ
route_text line = line_of (named_number (codes "route ") line.moment
    ∷ named_address (codes " ") line.node ∷ named_address (codes " ") line.orig
    ∷ next_text line.next ∷ [])
