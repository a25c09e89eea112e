-- The routes that lines tell of, and their loops. Of an originator and a node the last line counts:
-- it says over which next node the route goes, or that there is none. A loop of an originator is a
-- list of different nodes, each with the one behind it as its next node and the last with the first,
-- that begins with the least of their addresses. The main word is `loops_of`.
use Rattle.std.specs.Prelude.{ℕ, zero, suc, ◌&&◌, not, Bool, List, [], ◌∷◌, length, map, filter_map, find, Option, None, Some, option_map, option_and_then, if◌then◌else◌}
use Rattle.std.specs.List.{list_all, list_any}
use Rattle.std.specs.Ordering.{ordering_then}
use Rattle.std.specs.declared.cmp.Ordering.{Ordering}
use Rattle.mesh_base.specs.Ordered.{in_order}
use Rattle.mesh_base.specs.declared.address.Mac.{Mac}
use Rattle.mesh_model.specs.declared.route_line.RouteLine.{RouteLine}
use Rattle.mesh_model.specs.declared.route_line.RoutePair.{RoutePair}
use Rattle.mesh_model.specs.declared.route_loop.Loop.{Loop}
use Rattle.mesh_model.specs.Routes.Addresses.{is_smaller, mac_order, same_mac}

-- how two pairs stand to one another: by originator, then by node
abbrev pub pair_order : RoutePair → RoutePair → Ordering
pair_order a b = ordering_then (mac_order a.orig b.orig) (mac_order a.node b.node)

-- the originator and the node of a line
abbrev pub pair_of_line : RouteLine → RoutePair
pair_of_line line = record { orig = line.orig; node = line.node }

-- the pairs of which lines tell, in their order, each once
abbrev pub pairs_of : List RouteLine → List RoutePair
pairs_of lines = in_order pair_order (map pair_of_line lines)

-- whether two pairs are one
abbrev pub same_pair : RoutePair → RoutePair → Bool
same_pair a b = same_mac a.orig b.orig && same_mac a.node b.node

-- whether lines tell of a pair
abbrev pub has_pair : List RouteLine → RoutePair → Bool
has_pair lines pair = list_any (same_pair pair) (pairs_of lines)

-- whether a line tells of an originator and a node
abbrev pub tells_of : Mac → Mac → RouteLine → Bool
tells_of orig node line = same_mac line.orig orig && same_mac line.node node

-- the next node on the way from a node to an originator, by lines, newest first
abbrev pub next_of : List RouteLine → Mac → Mac → Option Mac
next_of lines orig node = option_and_then (λ line. line.next) (find (tells_of orig node) lines)

-- ---- walks

-- the nodes of a walk behind its first, of which this is the next: none more at the goal
abbrev pub walked_on : Mac → (Mac → Option (List Mac)) → Option Mac → Option (List Mac)
walked_on goal walk None = None
walked_on goal walk (Some node) = if same_mac node goal then Some [] else walk node

-- the nodes of the walk over next nodes from a node to a goal, without the goal behind them, where
-- the walk comes to it in so many steps
abbrev pub walk_to : (Mac → Option Mac) → Mac → ℕ → Mac → Option (List Mac)
walk_to next goal zero node = None
walk_to next goal (suc steps) node =
    option_map (λ nodes. node ∷ nodes) (walked_on goal (walk_to next goal steps) (next node))

-- the nodes of the walk from a node until it is back, where it is in so many steps
abbrev pub loop_from : (Mac → Option Mac) → ℕ → Mac → Option (List Mac)
loop_from next steps node = walk_to next node steps node

-- ---- loops

-- whether no node of some has an address below this one
abbrev pub is_least_of : List Mac → Mac → Bool
is_least_of nodes node = list_all (λ other. not (is_smaller other node)) nodes

-- the loop of a pair's originator with these nodes, where the pair's node is the least of them
abbrev pub if_least : RoutePair → List Mac → Option Loop
if_least pair nodes =
    if is_least_of nodes pair.node then Some (record { orig = pair.orig; nodes = nodes }) else None

-- the loop of a pair's originator that begins with the pair's node, if there is one: a loop has no
-- more nodes than there are pairs
abbrev pub loop_at : List RouteLine → RoutePair → Option Loop
loop_at lines pair = option_and_then (if_least pair)
    (loop_from (next_of lines pair.orig) (length (pairs_of lines)) pair.node)

-- the loops of all originators, by originator, then by their least node
abbrev pub loops_of : List RouteLine → List Loop
loops_of lines = filter_map (loop_at lines) (pairs_of lines)
