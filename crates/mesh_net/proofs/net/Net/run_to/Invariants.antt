use Rattle.std.proofs.Common.{◌+◌, ◌*◌, ◌-◌, ◌≤◌}
use Rattle.mesh_laws.specs.Soundness.{rank}
use Rattle.mesh_net.specs.NetStands.{HoldsFor, IsLive}
use Rattle.mesh_net.proofs.Slices.{UnderWay}
use Rattle.mesh_net.proofs.net.Net.run_to.Given as goal

abbrev pub invariant-loop : goal.invariant-loop
invariant-loop g l = record {
  live : IsLive g.A.Algo.queries g.A.Algo.stands l.self;
  soon : l.self.clock ≤ l.t;
  way : HoldsFor g.A.Algo.queries g.A.Algo.stands l.fn.self (λ choice clock mesh.
      UnderWay g.A.Algo.queries g.A.Algo.stands l.self choice mesh l.t l.fn.log l.log);
}

abbrev pub decreases-loop : goal.decreases-loop
decreases-loop g l = (l.t + 1) * 1099511627776 - rank l.self.last
