use Rattle.std.proofs.Common.{◌++◌, List, sym, ap, ◌∙◌}
use Rattle.std.proofs.lemmas.Result.{on_ok_weaker}
use Rattle.mesh_base.specs.declared.event.Event.{Event}
use Rattle.mesh_codec.specs.Lans.{seen_lan}
use Rattle.mesh_model.specs.Clients.Log.{LanFrame}
use Rattle.mesh_model.specs.Net.Inputs.{all_given}
use Rattle.mesh_model.specs.Net.Lans.{lan_delivered, put_given, reach_events, with_events}
use Rattle.mesh_model.specs.Net.Limits.{scenario_setup}
use Rattle.mesh_model.specs.Packets.LanFrames.{client_frame_in}
use Rattle.mesh_post.proofs.Back.{no_put, put_there}
use Rattle.mesh_net.proofs.LanSteps.{kept_there, lan_given, told_stage, tried_behind, tried_nothing}
use Rattle.mesh_net.proofs.StepLemmas.{told_as, tried_as}
use Rattle.mesh_net.proofs.net.Net.deliver_on_lan.Goals as goal

pub returns-clause-given : goal.returns-clause-given
returns-clause-given g c = λ choice last ticks mesh begun on.
    let q = g.A.Algo.queries in
    let st = g.A.Algo.stands in
    let net = c.args.self.now in
    let k = c.in-Some.put in
    let events : List Event = reach_events c.args.now k.lan k.by (client_frame_in (seen_lan c.read_lan-message.result)) in
    let attempt = all_given (scenario_setup q) c.as_slice.result.now c.args.now (LanFrame c.in-Some-get.bytes.now) (with_events events mesh) in
    tried_as q st c.give_all.new.seats.items c.give_all.new.post net.post.choice choice net.sent last ticks mesh c.args.log.now c.give_all.new.log attempt (lan_delivered (scenario_setup q) c.args.place c.args.now mesh) c.give_all.result begun.choice_is
    (lan_given q st net choice last ticks c.args.place c.args.now k _ _ c.putting_one.result c.as_slice.result.now mesh begun on (sym c.put_at.ensures ∙ c.in-Some.is) c.in-Some-get.ensures.some c.read_lan-message.ensures c.putting_one.ensures (c.as_slice.ensures.value ∙ c.in_ok-places.ensures))
    (on_ok_weaker c.give_all.result (λ t. tried_behind q st c.give_all.new.seats.items c.give_all.new.post net.post.choice net.sent last ticks events mesh c.args.log.now c.tell_reached.new.log c.give_all.new.log attempt c.in_ok-tell_reached.ensures.ok t)
    (c.give_all.ensures.given net.sent last ticks (with_events events mesh) 0 (told_stage q st net.seats.items net.post net.sent last ticks c.args.now events mesh begun.stage)))

pub returns-clause-cause : goal.returns-clause-cause
returns-clause-cause g c = λ choice last ticks mesh begun on.
    let q = g.A.Algo.queries in
    let net = c.args.self.now in
    let k = c.in-Some.put in
    let events : List Event = reach_events c.args.now k.lan k.by (client_frame_in (seen_lan c.read_lan-message.result)) in
    told_as (all_given (scenario_setup q) c.as_slice.result.now c.args.now (LanFrame c.in-Some-get.bytes.now) (with_events events mesh)) (lan_delivered (scenario_setup q) c.args.place c.args.now mesh) c.give_all.result
    (lan_given q g.A.Algo.stands net choice last ticks c.args.place c.args.now k _ _ c.putting_one.result c.as_slice.result.now mesh begun on (sym c.put_at.ensures ∙ c.in-Some.is) c.in-Some-get.ensures.some c.read_lan-message.ensures c.putting_one.ensures (c.as_slice.ensures.value ∙ c.in_ok-places.ensures))
    (c.give_all.ensures.cause net.sent last ticks (with_events events mesh) 0 (told_stage q g.A.Algo.stands net.seats.items net.post net.sent last ticks c.args.now events mesh begun.stage))

pub returns-in_default-clause-given : goal.returns-in_default-clause-given
returns-in_default-clause-given g c = λ choice last ticks mesh begun on.
    let setup = scenario_setup g.A.Algo.queries in
    let none = no_put (c.args.self.now.sent ++ c.args.self.now.post.fresh.items) mesh.puts c.args.self.now.post.puts.items c.args.place begun.stage.step.amid.stands.puts (sym c.put_at.ensures ∙ c.in_default.is) in
    tried_nothing g.A.Algo.queries g.A.Algo.stands c.args.self.now.seats.items c.args.self.now.post choice c.args.self.now.sent last ticks c.args.now mesh c.args.log.now (lan_delivered setup c.args.place c.args.now mesh) begun.stage begun.choice_is (ap (λ o. put_given setup c.args.now o mesh) none)

pub returns-in_default-get-clause-given : goal.returns-in_default-get-clause-given
returns-in_default-get-clause-given g c = λ choice last ticks mesh begun on.
    let net = c.args.self.now in
    let k = c.in-Some.put in
    let there = put_there (net.sent ++ net.post.fresh.items) mesh.puts net.post.puts.items c.args.place k begun.stage.step.amid.stands.puts (sym c.put_at.ensures ∙ c.in-Some.is) in
    absurd (kept_there net.sent net.post.fresh.items k there.0 begun.settled there.2 c.in_default-get.ensures.none)
