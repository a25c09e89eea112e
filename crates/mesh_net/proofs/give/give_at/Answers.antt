use Rattle.std.proofs.Common.{ap, ◌∙◌}
use Rattle.std.proofs.lemmas.Option.{slice_get_past}
use Rattle.mesh_node.specs.NodeStands.{given_by}
use Rattle.mesh_net.specs.Steps.{ticks_with}
use Rattle.mesh_post.proofs.LookUps.{got}
use Rattle.mesh_net.proofs.MomentLemmas.{past_at}
use Rattle.mesh_net.proofs.SeatLemmas.{seat_at}
use Rattle.mesh_net.proofs.StepLemmas.{tried_none, tried_if_given, may_send}
use Rattle.mesh_net.proofs.give.give_at.Goals as goal

pub returns-in_default-clause-given : goal.returns-in_default-clause-given
returns-in_default-clause-given g c = λ older last ticks mesh number stage counts.
    tried_none g.A.Algo.queries g.A.Algo.stands c.args.seats.now.items c.args.post.now older last ticks mesh c.args.at (given_by number c.args.input.now) c.args.log.now stage
    (slice_get_past c.args.seats.now.items c.args.at.place c.in_default.ensures.item.3)

pub give-requires : goal.give-requires
give-requires g c = λ alive.
    let k = c.in-Some.ensures.item in
    c.requires c.in-Some.seat.now (got c.args.seats.now.items c.args.at.place c.in-Some.seat.now k.3.0 k.1)

pub returns-clause-given : goal.returns-clause-given
returns-clause-given g c = λ older last ticks mesh number stage counts.
    let k = c.in-Some.ensures.item in
    let row = seat_at g.A.Algo.queries g.A.Algo.stands c.args.seats.now.items mesh.nodes c.args.at.place c.in-Some.seat.now stage.seats_stand (got c.args.seats.now.items c.args.at.place c.in-Some.seat.now k.3.0 k.1) in
    let may = may_send g.A.Algo.queries g.A.Algo.stands c.args.seats.now.items c.args.post.now older last ticks mesh (record { place = c.args.at.place; mac = c.in-Some.seat.now.mac; now = c.args.at.now; root = c.args.at.root }) row.0 stage row.1 in
    tried_if_given g.A.Algo.queries g.A.Algo.stands c.args.seats.now.items c.args.post.now c.give.new.post older last ticks mesh (record { place = c.args.at.place; mac = c.in-Some.seat.now.mac; now = c.args.at.now; root = c.args.at.root }) number c.args.input.now row.0
    (record { node = c.give.new.node; mac = c.in-Some.seat.now.mac; ticks = c.ticks_with-seat.result }) c.args.log.now c.give.new.log c.give.result stage counts row.1 row.2.mac
    (c.ticks_with-seat.ensures ∙ ap (λ n. ticks_with n c.args.input.now) row.2.ticks)
    (c.give.ensures.given older last ticks mesh row.0 number row.1 row.2.node (past_at c.args.at.now c.args.at.place mesh.nodes row.0 stage.past row.1) row.2.mac stage.step may)

pub returns-clause-cause : goal.returns-clause-cause
returns-clause-cause g c = λ older last ticks mesh number stage counts.
    let k = c.in-Some.ensures.item in
    let row = seat_at g.A.Algo.queries g.A.Algo.stands c.args.seats.now.items mesh.nodes c.args.at.place c.in-Some.seat.now stage.seats_stand (got c.args.seats.now.items c.args.at.place c.in-Some.seat.now k.3.0 k.1) in
    let may = may_send g.A.Algo.queries g.A.Algo.stands c.args.seats.now.items c.args.post.now older last ticks mesh (record { place = c.args.at.place; mac = c.in-Some.seat.now.mac; now = c.args.at.now; root = c.args.at.root }) row.0 stage row.1 in
    c.give.ensures.cause older last ticks mesh row.0 number row.1 row.2.node (past_at c.args.at.now c.args.at.place mesh.nodes row.0 stage.past row.1) row.2.mac stage.step may
