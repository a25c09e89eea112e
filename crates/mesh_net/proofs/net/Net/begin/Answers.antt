use Rattle.std.proofs.Common.{false, refl, arith}
use Rattle.mesh_model.specs.Net.Limits.{scenario_setup}
use Rattle.mesh_net.proofs.EmptyLemmas.{empty_reached}
use Rattle.mesh_net.proofs.net.Net.begin.Goals as goal

pub returns : goal.returns
returns g c =
    let new = c.new-net.ensures in
    record {
      alive = new.alive;
      choice_is = new.choice_is;
      clock_is = refl;
      last_is = new.last_is;
      past = omega arith;
      low = c.requires;
      seats = new.seats;
      kept = new.kept;
      settled = new.settled;
      watched = new.watched;
      reached = empty_reached (scenario_setup g.A.Algo.queries) false c.args.clock c.requires;
    }
