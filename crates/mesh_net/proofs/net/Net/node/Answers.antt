use Rattle.std.proofs.Common.{sym, ◌∙◌, subst, arith}
use Rattle.mesh_model.specs.Net.Mesh.{NodeLog}
use Rattle.mesh_node.specs.NodeStands.{NodeStands}
use Rattle.mesh_post.proofs.LookUps.{got, some_one}
use Rattle.mesh_net.proofs.SeatLemmas.{seat_at, seats_length}
use Rattle.mesh_net.proofs.net.Net.node.Goals as goal

pub index-requires : goal.index-requires
index-requires g c =
    let known = c.requires.known in
    let same = seats_length g.A.Algo.queries g.A.Algo.stands c.args.self.now.seats.items c.requires.mesh.nodes c.requires.standing.seats in
    omega (arith, known, same)

pub returns : goal.returns
returns g c = λ choice clock mesh row standing found.
    let known = c.requires.known in
    let same = seats_length g.A.Algo.queries g.A.Algo.stands c.args.self.now.seats.items c.requires.mesh.nodes c.requires.standing.seats in
    let s = seat_at g.A.Algo.queries g.A.Algo.stands c.args.self.now.seats.items mesh.nodes c.args.node c.index.result.now standing.seats (got c.args.self.now.seats.items c.args.node c.index.result.now (omega (arith, known, same)) c.index.ensures) in
    subst (λ (r : NodeLog). NodeStands g.A.Algo.stands g.A.Algo.queries c.index.result.now.node r.mac r.log) (some_one s.0 row (sym s.1 ∙ found)) s.2.node
