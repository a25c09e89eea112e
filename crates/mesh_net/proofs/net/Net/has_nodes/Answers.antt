use Rattle.std.proofs.Common.{◌≡◌, length, arith}
use Rattle.std.proofs.lemmas.Bool.Decides.{nat_tests}
use Rattle.mesh_model.specs.Net.Limits.{scenario_setup}
use Rattle.mesh_net.proofs.EmptyLemmas.{empty_without_nodes}
use Rattle.mesh_net.proofs.SeatLemmas.{seats_length}
use Rattle.mesh_net.proofs.net.Net.has_nodes.Goals as goal

pub returns-clause-told : goal.returns-clause-told
returns-clause-told g c = λ choice clock mesh standing.
    let same = seats_length g.A.Algo.queries g.A.Algo.stands c.args.self.now.seats.items mesh.nodes standing.seats in
    let empty = c.is_empty.ensures in
    grind (arith, nat_tests, same, empty)

pub returns-clause-empty : goal.returns-clause-empty
returns-clause-empty g c = λ choice clock mesh standing is.
    let same = seats_length g.A.Algo.queries g.A.Algo.stands c.args.self.now.seats.items mesh.nodes standing.seats in
    let empty = c.is_empty.ensures in
    let none : length mesh.nodes ≡ 0 = grind (arith, nat_tests, same, empty, is) in
    empty_without_nodes (scenario_setup g.A.Algo.queries) clock mesh standing.reached none
