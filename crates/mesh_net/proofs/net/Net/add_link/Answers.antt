use Rattle.mesh_net.specs.NetStands.{net_link}
use Rattle.mesh_net.proofs.JoinCalls.{linked_net, still_linked}
use Rattle.mesh_net.proofs.net.Net.add_link.Goals as goal

pub returns-clause-joins : goal.returns-clause-joins
returns-clause-joins g c = λ choice clock mesh st.
    still_linked g.A.Algo.queries g.A.Algo.stands c.join_link-joined.result c.join_link-joined.new.self c.is_err-self.result choice clock mesh (net_link c.args.from c.args.to c.args.link.now) c.is_err-self.ensures.value (c.join_link-joined.ensures.joins choice clock mesh st)

pub returns-clause-net : goal.returns-clause-net
returns-clause-net g c =
    linked_net g.A.Algo.queries g.A.Algo.stands c.join_link-joined.result c.args.self.now c.join_link-joined.new.self c.is_err-self.result (net_link c.args.from c.args.to c.args.link.now) c.requires.net c.if-self.false c.is_err-self.ensures.value c.join_link-joined.ensures.joins
