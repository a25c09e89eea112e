use Rattle.std.proofs.lemmas.Result.{on_ok_weaker}
use Rattle.mesh_net.proofs.net.Net.attach.Goals as goal

pub returns-in-Ok-clause-given : goal.returns-in-Ok-clause-given
returns-in-Ok-clause-given g c = λ choice last ticks mesh begun.
    on_ok_weaker c.keep_sendings.result (λ settled. record {
      amid = c.give_places.new.self;
      told = _;
      log = c.give_places.new.log;
      gave = c.in-Ok.ensures.given choice last ticks mesh begun;
      kept = c.give_places.ensures.kept;
      settled = settled;
    }) c.keep_sendings.ensures.ok
