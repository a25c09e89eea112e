use Rattle.std.proofs.Common.{◌≡◌, ℕ, ◌+◌, ◌<◌, ◌≤◌, refl, sym, ap, ◌∙◌, arith, rules}
use Rattle.std.proofs.lemmas.Bool.Decides.{nat_tests}
use Rattle.mesh_model.specs.Net.Limits.{scenario_setup}
use Rattle.mesh_model.specs.Run.Passing.{run_until}
use Rattle.mesh_scene.proofs.NetLemmas.{net_clock}
use Rattle.mesh_run.proofs.TimeLemmas.{time_late, time_passes}
use Rattle.mesh_run.proofs.time.run.Goals as goal

pub returns-in_default-clause-line : goal.returns-in_default-clause-line
returns-in_default-clause-line g c = λ base state stands.
    let now = c.now.ensures state.choice state.clock state.mesh stands.scene_is.net_is in
    let late : 1099511627776 < c.now.result + c.args.time = search (rules, c.in_default.ensures.none) in
    let past : 1099511627776 < state.clock + c.args.time = omega (arith, now, late) in
    record { after = state; ended = time_late (scenario_setup g.A.Algo.queries) state c.args.time (grind (arith, nat_tests, past)); numbered = refl; printed = stands.printed }

pub run_until-requires-clause-later : goal.run_until-requires-clause-later
run_until-requires-clause-later g c =
    let at = c.requires.somewhere in
    let state = at.state in
    let clock = net_clock g.A.Algo.queries g.A.Algo.stands c.args.scene.now.net state.choice state.clock state.mesh at.standing.net_is in
    let now = c.now.ensures state.choice state.clock state.mesh at.standing.net_is in
    let end = c.in-Some.ensures.some.0 in
    omega (arith, clock, now, end)

pub returns-clause-line : goal.returns-clause-line
returns-clause-line g c = λ base state stands.
    let now = c.now.ensures state.choice state.clock state.mesh stands.scene_is.net_is in
    let end = c.in-Some.ensures.some.0 in
    let low = c.in-Some.ensures.some.1 in
    let is : c.in-Some.end ≡ state.clock + c.args.time = omega (arith, now, end) in
    let within : state.clock + c.args.time ≤ 1099511627776 = omega (arith, is, low) in
    let outcome = time_passes (scenario_setup g.A.Algo.queries) state c.args.time (grind (arith, nat_tests, within)) ∙ ap (λ (t : ℕ). run_until (scenario_setup g.A.Algo.queries) t state) (sym is) in
    rw outcome (c.run_until.ensures.line base state stands)
