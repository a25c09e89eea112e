use Rattle.std.proofs.Common.{◌≡◌, ◌<◌, ℕ, suc, List, [], length, map, refl, sym, ap, ap₂, ◌∙◌, subst, arith}
use Rattle.mesh_base.specs.declared.address.Mac.{Mac}
use Rattle.mesh_model.specs.Clients.Log.{Given, Attach, Line}
use Rattle.mesh_model.specs.Net.Due.{first_ticks}
use Rattle.mesh_model.specs.Net.Inputs.{all_given}
use Rattle.mesh_model.specs.Net.Lans.{attachment, joins_lan, with_lan}
use Rattle.mesh_model.specs.Net.Limits.{lans_limit, scenario_setup}
use Rattle.mesh_model.specs.Net.Mesh.{NetLan, address_at}
use Rattle.mesh_net.specs.NetStands.{NetStands}
use Rattle.mesh_net.specs.Steps.{Gave}
use Rattle.mesh_net.specs.Tells.{StandsAfter}
use Rattle.mesh_net.proofs.Ends.{begun_now, carried_lan}
use Rattle.mesh_net.proofs.JoinCalls.{lan_memory}
use Rattle.mesh_net.proofs.LanSteps.{begun_lan, lans_count}
use Rattle.mesh_net.proofs.net.Net.join_lan.Goals as goal

pub returns-then-len-ge-LANS_LIMIT-clause-cause : goal.returns-then-len-ge-LANS_LIMIT-clause-cause
returns-then-len-ge-LANS_LIMIT-clause-cause g c = λ choice clock mesh st.
    let all = ap length st.kept.amid.stands.lans ∙ lans_count mesh.lans in
    let len = c.len.ensures in
    let full = c.if-len-ge-LANS_LIMIT.true in
    (refl, omega (arith, all, len, full))

pub returns-in_err-place-clause-cause : goal.returns-in_err-place-clause-cause
returns-in_err-place-clause-cause g c = λ choice clock mesh st.
    let all = ap length st.kept.amid.stands.lans ∙ lans_count mesh.lans in
    let len = c.len.ensures in
    let room = c.if-len-ge-LANS_LIMIT.false in
    lan_memory c.from_residual.result (length mesh.lans) (omega (arith, all, len, room)) c.from_residual.ensures.1

pub attach-requires-clause-stage : goal.attach-requires-clause-stage
attach-requires-clause-stage g c =
    let q = g.A.Algo.queries in
    let st = g.A.Algo.stands in
    let live = c.requires.live in
    let mesh = live.mesh in
    let s = subst (λ k. NetStands q st c.args.self.now live.choice k mesh) (sym live.standing.clock_is) live.standing in
    let lan : NetLan = record { name = []; gateways = c.args.gateways.now } in
    let begun = begun_lan q st c.args.self.now c.add_lan.new.self live.choice mesh lan (begun_now q st c.args.self.now live.choice mesh s) c.add_lan.ensures.choice (λ i. (c.add_lan.ensures.settled i).items) (c.in_ok-add_lan.ensures.joins c.args.self.now.sent mesh.last (first_ticks 0 mesh.nodes) mesh lan s.kept refl) in
    record { older = c.args.self.now.sent; last = mesh.last; ticks = first_ticks 0 mesh.nodes; mesh = with_lan lan mesh; stage = begun.stage }

pub returns-clause-joins : goal.returns-clause-joins
returns-clause-joins g c = λ choice clock mesh st.
    let q = g.A.Algo.queries in
    let state = g.A.Algo.stands in
    let net = c.args.self.now in
    let s = subst (λ k. NetStands q state net choice k mesh) (sym st.clock_is) st in
    let all = ap length st.kept.amid.stands.lans ∙ lans_count mesh.lans in
    let len = c.len.ensures in
    let len2 = c.len-2.ensures in
    let place = c.in_ok-place.ensures.is in
    let room = c.if-len-ge-LANS_LIMIT.false in
    let few : length mesh.lans < lans_limit = omega (arith, all, len, room) in
    let place_is : c.in_ok-place.place ≡ length mesh.lans = omega (arith, all, len2, place) in
    let sum = c.saturating_add.ensures in
    let number = c.in-Ok.ensures.1 in
    let lan_is : c.in-Ok.lan ≡ suc (length mesh.lans) = omega (arith, sum, number, place_is, few) in
    let macs_are : c.as_slice.result.now ≡ map (λ at. address_at at mesh.nodes) c.args.gateways.now = c.as_slice.ensures.value ∙ c.in_ok-macs.ensures mesh.nodes st.seats in
    let told_is : Line (Attach c.in-Ok.lan c.as_slice.result.now) ≡ attachment mesh c.args.gateways.now = ap₂ (λ (n : ℕ) (ms : List Mac). Line (Attach n ms)) lan_is macs_are in
    record {
      place_is = place_is;
      room = few;
      joined = λ name.
          let lan : NetLan = record { name = name; gateways = c.args.gateways.now } in
          let begun = begun_lan q state net c.add_lan.new.self choice mesh lan (begun_now q state net choice mesh s) c.add_lan.ensures.choice (λ i. (c.add_lan.ensures.settled i).items) (c.in_ok-add_lan.ensures.joins net.sent mesh.last (first_ticks 0 mesh.nodes) mesh lan s.kept refl) in
          let gave = c.in_ok-attach.ensures.given choice mesh.last (first_ticks 0 mesh.nodes) (with_lan lan mesh) begun in
          let joins = subst (λ (given : Given). Gave q state gave.amid choice mesh.last (first_ticks 0 mesh.nodes) (with_lan lan mesh) gave.told gave.log (all_given (scenario_setup q) c.args.gateways.now net.clock given (with_lan lan mesh))) told_is gave.gave in
          subst (λ k. StandsAfter q state c.attach.new.self choice k (joins_lan (scenario_setup q) name c.args.gateways.now k mesh)) st.clock_is
          (carried_lan q state net gave.amid c.attach.new.self choice mesh gave.told gave.log name c.args.gateways.now s gave.kept.clock gave.kept.last gave.kept.watch gave.kept.dead gave.settled few (c.requires.rules choice clock mesh st) joins);
    }
