use Rattle.mesh_net.proofs.JoinCalls.{joined_net, still_joined}
use Rattle.mesh_net.proofs.net.Net.add_node.Goals as goal

pub returns-clause-joins : goal.returns-clause-joins
returns-clause-joins g c = λ choice clock mesh st.
    still_joined g.A.Algo.queries g.A.Algo.stands c.join-joined.result c.join-joined.new.self c.is_err-self.result choice clock mesh c.args.me c.is_err-self.ensures.value (c.join-joined.ensures.joins choice clock mesh st)

pub returns-clause-net : goal.returns-clause-net
returns-clause-net g c =
    joined_net g.A.Algo.queries g.A.Algo.stands c.join-joined.result c.args.self.now c.join-joined.new.self c.is_err-self.result c.args.me c.requires.net c.if-self.false c.is_err-self.ensures.value c.join-joined.ensures.joins
