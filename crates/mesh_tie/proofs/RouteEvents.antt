-- Events of lines of routes are of their own kind.
use Rattle.std.proofs.Common.{◌≡◌, inl, inr, List, [], ◌∷◌, map}
use Rattle.mesh_base.specs.declared.event.Event.{Event}
use Rattle.mesh_model.specs.declared.route_line.RouteLine.{RouteLine}
use Rattle.mesh_model.specs.Net.Next.{Has}
use Rattle.mesh_model.specs.Net.Watching.{route_event}

-- an event that is that of no line is none of theirs
pub no_route_event : (lines : List RouteLine) (event : Event) → ((line : RouteLine) → event ≡ route_event line → ⊥) → Has (map route_event lines) event → ⊥
no_route_event [] event other has = has
no_route_event (line ∷ rest) event other (inl is) = other line is
no_route_event (line ∷ rest) event other (inr has) = no_route_event rest event other has
