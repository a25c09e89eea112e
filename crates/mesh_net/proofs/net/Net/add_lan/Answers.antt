use Rattle.mesh_net.proofs.Ends.{live_of}
use Rattle.mesh_net.proofs.JoinCalls.{lan_net, still_lan}
use Rattle.mesh_net.proofs.net.Net.add_lan.Goals as goal

pub join_lan-joined-requires-clause-live : goal.join_lan-joined-requires-clause-live
join_lan-joined-requires-clause-live g c = live_of g.A.Algo.queries g.A.Algo.stands c.args.self.now c.requires.net c.if-self.false

pub returns-clause-joins : goal.returns-clause-joins
returns-clause-joins g c = λ choice clock mesh st.
    still_lan g.A.Algo.queries g.A.Algo.stands c.join_lan-joined.result c.join_lan-joined.new.self c.is_err-self.result choice clock mesh c.args.gateways.now c.is_err-self.ensures.value (c.join_lan-joined.ensures.joins choice clock mesh st)

pub returns-clause-net : goal.returns-clause-net
returns-clause-net g c =
    lan_net g.A.Algo.queries g.A.Algo.stands c.join_lan-joined.result c.args.self.now c.join_lan-joined.new.self c.is_err-self.result c.args.gateways.now c.requires.net c.if-self.false c.is_err-self.ensures.value c.join_lan-joined.ensures.joins
