use Rattle.std.proofs.lemmas.Result.{err_from_is_err_and}
use Rattle.mesh_model.specs.Net.Limits.{scenario_setup}
use Rattle.mesh_laws.proofs.Schedule.Steps.{effect_is}
use Rattle.mesh_net.specs.Steps.{ticks_amid}
use Rattle.mesh_net.proofs.Ends.{happening_tells, still_watched}
use Rattle.mesh_net.proofs.WatchLemmas.{happened}
use Rattle.mesh_net.proofs.net.Net.happen_whole.Goals as goal

pub returns-in_err-happen-clause-cause : goal.returns-in_err-happen-clause-cause
returns-in_err-happen-clause-cause g c = λ choice last others mesh begun on lans.
    let p = err_from_is_err_and c.from_residual.result c.from_residual.ensures.1 in
    rw (p.1, p.2) (happening_tells (scenario_setup g.A.Algo.queries) mesh c.args.h c.in_err-happen.field-0.0 (c.in_err-happen.ensures.cause choice last others mesh begun on lans))

pub returns-clause-happened : goal.returns-clause-happened
returns-clause-happened g c = λ choice last others mesh begun on lans watched.
    let q = g.A.Algo.queries in
    let st = g.A.Algo.stands in
    let h = c.args.h in
    let amid = c.happen.new.self in
    let ticks = ticks_amid h.class h.place h.moment others in
    let gave = c.in_ok-happen.ensures.given choice last others mesh begun on lans in
    let stays = (effect_is (scenario_setup q) mesh h.class h.place h.moment gave.after gave.is).watch in
    happened q st amid c.tell_routes.new.self choice last ticks mesh c.args.log.now c.happen.new.log c.tell_routes.new.log h gave c.tell_routes.ensures.kept
    (c.in_ok-tell_routes.ensures.told amid.sent last ticks gave.after gave.step gave.seats_stand (still_watched c.args.self.now.watch amid.watch mesh.watch gave.after.watch c.happen.ensures.kept.watch stays watched))
