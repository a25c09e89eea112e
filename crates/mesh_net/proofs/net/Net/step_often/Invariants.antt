use Rattle.mesh_net.specs.NetStands.{HoldsFor, IsLive}
use Rattle.mesh_net.specs.Steps.{Went}
use Rattle.mesh_net.proofs.net.Net.step_often.Given as goal

abbrev pub invariant-loop : goal.invariant-loop
invariant-loop g l = record {
  live : IsLive g.A.Algo.queries g.A.Algo.stands l.self;
  went : HoldsFor g.A.Algo.queries g.A.Algo.stands l.fn.self (λ choice clock mesh.
      Went g.A.Algo.queries g.A.Algo.stands l.self choice clock mesh l.t l.counter l.fn.log l.log);
}
