-- What the loops of lines are, whatever the lines tell: the rings of different nodes that begin with
-- their least node, all of them and nothing else. No node is in two loops of one originator. And what
-- is printed of a route is read as it. The main words are `LoopsAreRings`, `OneLoop` and
-- `RoutesComeBack`.
use Rattle.std.specs.Prelude.{◌≡◌, ◌↔◌, ⊤, ℕ, ◌^◌, ◌<◌, ◌≤◌, true, List, [], ◌∷◌, ◌++◌, length, Option, Some, IfSome}
use Rattle.std.specs.List.{AllByRecursion, IsDistinct, list_any}
use Rattle.mesh_base.specs.Address.{mac_size}
use Rattle.mesh_base.specs.declared.address.Mac.{Mac}
use Rattle.mesh_model.specs.declared.route_line.RouteLine.{RouteLine}
use Rattle.mesh_model.specs.declared.route_line.RouteReading.TheVariants.{Route}
use Rattle.mesh_model.specs.declared.route_loop.Loop.{Loop}
use Rattle.mesh_model.specs.Loops.Reports.{has_loop}
use Rattle.mesh_model.specs.Loops.Routes.{is_least_of, loops_of, next_of}
use Rattle.mesh_model.specs.Loops.RouteLines.{route_of_line}
use Rattle.mesh_model.specs.Routes.Addresses.{same_mac}
use Rattle.mesh_model.specs.Scenario.Lines.{newline}
use Rattle.mesh_model.specs.Scenario.NetForms.{time_limit}
use Rattle.mesh_model.specs.Text.Routes.{route_text}

-- ---- loops

-- each node has the one behind it as its next node, and the last has the goal
abbrev pub LeadTo : (Mac → Option Mac) → Mac → List Mac → Type 0
LeadTo next goal [] = ⊤
LeadTo next goal (node ∷ []) = next node ≡ Some goal
LeadTo next goal (node ∷ after ∷ rest) = (next node ≡ Some after) × LeadTo next goal (after ∷ rest)

-- there is a first node, to which the last one leads back, and it is the least
abbrev pub GoRound : (Mac → Option Mac) → List Mac → Type 0
GoRound next [] = ⊥
GoRound next (first ∷ rest) =
    LeadTo next first (first ∷ rest) × (is_least_of (first ∷ rest) first ≡ true)

-- different nodes go round, the least first
pub record IsRing (lines : List RouteLine) (loop : Loop) : Type 0 where
  pub differ : IsDistinct same_mac loop.nodes
  pub round : GoRound (next_of lines loop.orig) loop.nodes

-- the loops of lines are these rings
abbrev pub LoopsAreRings : Type 0
LoopsAreRings = (lines : List RouteLine) (loop : Loop) →
    (has_loop (loops_of lines) loop ≡ true) ↔ IsRing lines loop

-- two loops of one originator with a node in both are one
abbrev pub OneLoop : Type 0
OneLoop = (lines : List RouteLine) (a b : Loop) (node : Mac)
    → has_loop (loops_of lines) a ≡ true → has_loop (loops_of lines) b ≡ true → a.orig ≡ b.orig
    → list_any (same_mac node) a.nodes ≡ true → list_any (same_mac node) b.nodes ≡ true → a ≡ b

-- ---- lines of routes

-- an address has six bytes
abbrev pub IsAddress : Mac → Type 0
IsAddress mac = (length mac.0 ≡ mac_size) × AllByRecursion (λ byte. byte < 2 ^ 8) mac.0

-- a line can tell of a route: its moment isn't too great, and its addresses are such
pub record CanBeTold (line : RouteLine) : Type 0 where
  pub moment : line.moment ≤ time_limit
  pub node : IsAddress line.node
  pub orig : IsAddress line.orig
  pub next : IfSome line.next IsAddress

-- what is printed of a route, up to its newline, is read as it
abbrev pub RoutesComeBack : Type 0
RoutesComeBack = (line : RouteLine) (said : List ℕ) → CanBeTold line
    → route_text line ≡ said ++ newline ∷ [] → route_of_line said ≡ Route line
