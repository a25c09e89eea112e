use Rattle.std.proofs.Common.{true}
use Rattle.mesh_model.specs.Net.Limits.{scenario_setup}
use Rattle.mesh_post.proofs.Besides.{step_beside}
use Rattle.mesh_net.proofs.EmptyLemmas.{empty_reached}
use Rattle.mesh_net.proofs.net.Net.watch_routes.Goals as goal

pub returns-clause-watches : goal.returns-clause-watches
returns-clause-watches g c = λ choice clock was. record {
  alive = was.alive;
  choice_is = was.choice_is;
  clock_is = was.clock_is;
  last_is = was.last_is;
  past = was.past;
  low = was.low;
  seats = was.seats;
  kept = step_beside was.kept;
  settled = was.settled;
  watched = record { each = c.new.ensures.each };
  reached = empty_reached (scenario_setup g.A.Algo.queries) true clock was.low;
}
