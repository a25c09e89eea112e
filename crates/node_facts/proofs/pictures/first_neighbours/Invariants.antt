use Rattle.std.proofs.Common.{◌≡◌, ◌++◌, drop}
use Rattle.std.specs.Prelude.{filter_map}
use Rattle.mesh_model.specs.Services.Pictures.{if_neighbour}
use Rattle.node_facts.proofs.pictures.first_neighbours.Given as goal

abbrev pub invariant-loop-row : goal.invariant-loop-row
invariant-loop-row l = filter_map if_neighbour l.rows ≡ l.neighbours.items ++ filter_map if_neighbour (drop l.row-index l.rows)
