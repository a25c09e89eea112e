use Rattle.std.proofs.Common.{arith}
use Rattle.mesh_net.proofs.SeatLemmas.{seats_length}
use Rattle.mesh_net.proofs.net.Net.len.Goals as goal

pub returns : goal.returns
returns g c = λ choice clock mesh standing.
    let same = seats_length g.A.Algo.queries g.A.Algo.stands c.args.self.now.seats.items mesh.nodes standing.seats in
    omega (arith, same, c.len.ensures, c.args.self.now.seats.ok.0)
