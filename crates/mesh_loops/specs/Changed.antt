-- The loops of which a pair has another next node than before, as they are found in what is kept.
-- No clause of a public call cites this file. The main word is `changed_loops`.
use Rattle.std.specs.Prelude.{◌&&◌, not, Bool, List, length, filter_map, Option, None, Some, option_and_then, if◌then◌else◌}
use Rattle.std.specs.List.{list_any}
use Rattle.std.specs.Option.{option_eq}
use Rattle.mesh_base.specs.declared.address.Mac.{Mac}
use Rattle.mesh_model.specs.declared.route_line.RoutePair.{RoutePair}
use Rattle.mesh_model.specs.declared.route_loop.Loop.{Loop}
use Rattle.mesh_model.specs.Loops.Routes.{is_least_of, loop_from}
use Rattle.mesh_model.specs.Routes.Addresses.{same_mac}
use Rattle.mesh_loops.specs.declared.when.When.{When}
use Rattle.mesh_loops.specs.declared.when.When.TheVariants.{Before, Now}
use Rattle.mesh_loops.specs.Watch.{Kept, next_at}

-- the pair of an originator and a node
abbrev pub pair_of : Mac → Mac → RoutePair
pair_of orig node = record { orig = orig; node = node }

-- the next nodes on the way to an originator
abbrev pub nexts_at : Kept → When → Mac → Mac → Option Mac
nexts_at kept when orig node = next_at kept when (pair_of orig node)

-- the nodes of the walk from a pair's node until it is back
abbrev pub found_from : Kept → When → RoutePair → Option (List Mac)
found_from kept when pair =
    loop_from (nexts_at kept when pair.orig) (length kept.routes) pair.node

-- whether a pair has another next node than before
abbrev pub has_changed : Kept → RoutePair → Bool
has_changed kept pair =
    not (option_eq same_mac (next_at kept Before pair) (next_at kept Now pair))

-- whether one of some nodes has another next node than before
abbrev pub have_changed : Kept → Mac → List Mac → Bool
have_changed kept orig nodes = list_any (λ node. has_changed kept (pair_of orig node)) nodes

-- the loop of an originator with these nodes
abbrev pub loop_with : Mac → List Mac → Loop
loop_with orig nodes = record { orig = orig; nodes = nodes }

-- the loop with these nodes, where the pair's node is the least of them and one has changed
abbrev pub if_changed : Kept → RoutePair → List Mac → Option Loop
if_changed kept pair nodes =
    if is_least_of nodes pair.node && have_changed kept pair.orig nodes
    then Some (loop_with pair.orig nodes) else None

-- the loop that begins with a pair's node, where one of its nodes has changed
abbrev pub changed_loop : Kept → When → RoutePair → Option Loop
changed_loop kept when pair = option_and_then (if_changed kept pair) (found_from kept when pair)

-- the loops that begin with the nodes of these pairs
abbrev pub changed_loops : Kept → When → List RoutePair → List Loop
changed_loops kept when heads = filter_map (changed_loop kept when) heads
