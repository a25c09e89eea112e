use Rattle.std.proofs.Common.{◌∙◌, sym, subst}
use Rattle.mesh_model.specs.Net.Limits.{scenario_setup}
use Rattle.mesh_model.specs.Net.Watching.{lines_of_node}
use Rattle.mesh_net.specs.Watching.{HasTold}
use Rattle.mesh_net.proofs.SeatLemmas.{no_seat_at, seat_at}
use Rattle.mesh_net.proofs.WatchLemmas.{told_none, told_by_node}
use Rattle.mesh_post.proofs.LookUps.{got}
use Rattle.mesh_net.proofs.watch.tell_at.Goals as goal

pub returns-in_default-clause-told : goal.returns-in_default-clause-told
returns-in_default-clause-told g c = λ nodes before all stands.
    let none = no_seat_at g.A.Algo.queries g.A.Algo.stands c.args.seats.now nodes c.args.place all c.in_default.ensures.lookup.3 in
    subst (λ o. HasTold (lines_of_node (scenario_setup g.A.Algo.queries) c.args.now before o) before c.args.told.now c.args.log.now c.args.log.now) (sym none) (told_none c.args.told.now before c.args.log.now stands)

pub returns-clause-told : goal.returns-clause-told
returns-clause-told g c = λ nodes before all stands.
    let k = c.in-Some.ensures.lookup in
    let row = seat_at g.A.Algo.queries g.A.Algo.stands c.args.seats.now nodes c.args.place c.in-Some.seat.now all (got c.args.seats.now c.args.place c.in-Some.seat.now k.3.0 k.1) in
    told_by_node g.A.Algo.queries g.A.Algo.stands c.in-Some.seat.now row.0 nodes c.args.place c.args.now c.as_slice.result.now before c.tell.new.self c.args.log.now c.tell.new.log row.1 row.2
    (c.as_slice.ensures.value ∙ c.in_ok-rows.ensures row.0.mac _ (c.algo.ensures row.0.mac row.0.log row.2.node)) (c.in_ok-tell.ensures.ok before stands) (c.in_ok-tell.ensures.told before stands)

pub returns-in_err-tell-clause-grew : goal.returns-in_err-tell-clause-grew
returns-in_err-tell-clause-grew g c = record { more = c.tell.ensures.grew.0; is = c.tell.ensures.grew.1 }

pub returns-clause-grew : goal.returns-clause-grew
returns-clause-grew g c = record { more = c.tell.ensures.grew.0; is = c.tell.ensures.grew.1 }
