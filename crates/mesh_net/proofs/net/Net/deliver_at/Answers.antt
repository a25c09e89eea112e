use Rattle.std.proofs.Common.{suc}
use Rattle.mesh_model.specs.Clients.Log.{LinkFrame}
use Rattle.mesh_model.specs.Net.Inputs.{given_to}
use Rattle.mesh_model.specs.Net.Limits.{scenario_setup}
use Rattle.mesh_model.specs.Net.Runs.{delivered}
use Rattle.mesh_post.specs.declared.row.Sending.{Sending}
use Rattle.mesh_net.proofs.InputLemmas.{may_take, frame_is}
use Rattle.mesh_net.proofs.StepLemmas.{tried_as, told_as}
use Rattle.mesh_net.proofs.net.Net.deliver_at.Goals as goal

pub give_at-requires : goal.give_at-requires
give_at-requires g c = may_take g.A.Algo.queries g.A.Algo.stands c.args.self.now c.in-Some.arrival.to c.args.now _ c.requires (λ known. tt)

pub returns-clause-given : goal.returns-clause-given
returns-clause-given g c = λ choice last ticks mesh begun on.
    let q = g.A.Algo.queries in
    let st = g.A.Algo.stands in
    let net = c.args.self.now in
    let sending : Sending = record { root = c.in-Some-get.root; bytes = c.in-Some-get.bytes.now } in
    tried_as q st c.give_at.new.seats.items c.give_at.new.post net.post.choice choice net.sent last ticks mesh c.args.log.now c.give_at.new.log
    (given_to (scenario_setup q) c.in-Some.arrival.to c.args.now sending.root (LinkFrame (suc c.args.place) c.in-Some.arrival.from c.in-Some.arrival.tp sending.bytes) mesh) (delivered (scenario_setup q) c.args.place c.args.now mesh) c.give_at.result begun.choice_is
    (frame_is q st (scenario_setup q) net choice last ticks c.args.now mesh c.args.place c.arrival.result c.in-Some.arrival sending c.in-Some.is begun on (λ frame link e l. c.arrival.ensures.some _ mesh frame link begun.stage.step.amid.stands e l) (c.arrival.ensures.none _ mesh begun.stage.step.amid.stands) c.in-Some-get.ensures.some)
    (c.give_at.ensures.given net.sent last ticks mesh (suc c.args.place) begun.stage (λ row found. tt))

pub returns-clause-cause : goal.returns-clause-cause
returns-clause-cause g c = λ choice last ticks mesh begun on.
    let q = g.A.Algo.queries in
    let sending : Sending = record { root = c.in-Some-get.root; bytes = c.in-Some-get.bytes.now } in
    told_as (given_to (scenario_setup q) c.in-Some.arrival.to c.args.now sending.root (LinkFrame (suc c.args.place) c.in-Some.arrival.from c.in-Some.arrival.tp sending.bytes) mesh) (delivered (scenario_setup q) c.args.place c.args.now mesh) c.give_at.result
    (frame_is q g.A.Algo.stands (scenario_setup q) c.args.self.now choice last ticks c.args.now mesh c.args.place c.arrival.result c.in-Some.arrival sending c.in-Some.is begun on (λ frame link e l. c.arrival.ensures.some _ mesh frame link begun.stage.step.amid.stands e l) (c.arrival.ensures.none _ mesh begun.stage.step.amid.stands) c.in-Some-get.ensures.some)
    (c.give_at.ensures.cause c.args.self.now.sent last ticks mesh (suc c.args.place) begun.stage (λ row found. tt))
