use Rattle.std.proofs.Common.{false, refl, arith}
use Rattle.mesh_net.specs.Reached.{begins}
use Rattle.mesh_net.proofs.net.Net.new.Goals as goal

pub returns : goal.returns
returns g c = record {
  alive = refl;
  choice_is = c.new-2.ensures.choice;
  clock_is = refl;
  last_is = refl;
  past = omega arith;
  low = omega arith;
  seats = rw c.new.ensures.items tt;
  kept = rw c.new-4.ensures c.new-2.ensures.stands;
  settled = c.new-2.ensures.settled;
  watched = tt;
  reached = begins false;
}
