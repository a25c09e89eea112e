use Rattle.std.proofs.Common.{◌+◌, ◌∷◌, arith}
use Rattle.mesh_model.specs.Clients.Log.{Tick}
use Rattle.mesh_model.specs.Net.Due.{tick_time}
use Rattle.mesh_model.specs.Net.Inputs.{given_to}
use Rattle.mesh_model.specs.Net.Limits.{scenario_setup}
use Rattle.mesh_model.specs.Net.Runs.{ticked}
use Rattle.mesh_net.specs.Steps.{tick_now}
use Rattle.mesh_net.proofs.InputLemmas.{ticker, ticks_now, tick_taken}
use Rattle.mesh_net.proofs.StepLemmas.{tried_as, told_as}
use Rattle.mesh_net.proofs.net.Net.tick_at.Goals as goal

pub give_at-requires : goal.give_at-requires
give_at-requires g c =
    let t = ticker g.A.Algo.queries g.A.Algo.stands c.args.self.now c.args.place c.args.now c.next_index-index.result c.requires in
    tick_taken g.A.Algo.queries g.A.Algo.stands c.args.self.now.seats.items c.args.place c.args.now c.next_index-index.result t (c.next_index-index.ensures t.seat t.found t.low)

pub returns-clause-given : goal.returns-clause-given
returns-clause-given g c = λ choice last others mesh begun.
    let q = g.A.Algo.queries in
    let net = c.args.self.now in
    let index = c.next_index-index.result in
    let late = c.saturating_add.ensures in
    let low = begun.stage.soon in
    let t = ticks_now q g.A.Algo.stands (scenario_setup q) net c.push.new.self choice last others c.args.place c.args.now index c.saturating_add.result c.tick_of-next.result mesh begun c.requires c.next_index-index.ensures c.in_ok-push.ensures.ok c.tick_of-next.ensures (omega (arith, late, low)) in
    tried_as q g.A.Algo.stands c.give_at.new.seats.items c.give_at.new.post net.post.choice choice net.sent last (tick_now c.args.place (c.args.now + tick_time) ∷ others) mesh c.args.log.now c.give_at.new.log
    (given_to (scenario_setup q) c.args.place c.args.now index (Tick index) mesh) (ticked (scenario_setup q) c.args.place c.args.now mesh) c.give_at.result begun.choice_is t.is
    (c.give_at.ensures.given net.sent last (tick_now c.args.place (c.args.now + tick_time) ∷ others) mesh 0 t.stage t.counts)

pub returns-clause-cause : goal.returns-clause-cause
returns-clause-cause g c = λ choice last others mesh begun.
    let setup = scenario_setup g.A.Algo.queries in
    let index = c.next_index-index.result in
    let late = c.saturating_add.ensures in
    let low = begun.stage.soon in
    let t = ticks_now g.A.Algo.queries g.A.Algo.stands setup c.args.self.now c.push.new.self choice last others c.args.place c.args.now index c.saturating_add.result c.tick_of-next.result mesh begun c.requires c.next_index-index.ensures c.in_ok-push.ensures.ok c.tick_of-next.ensures (omega (arith, late, low)) in
    told_as (given_to setup c.args.place c.args.now index (Tick index) mesh) (ticked setup c.args.place c.args.now mesh) c.give_at.result t.is
    (c.give_at.ensures.cause c.args.self.now.sent last (tick_now c.args.place (c.args.now + tick_time) ∷ others) mesh 0 t.stage t.counts)
