use Rattle.std.proofs.Common.{◌≡◌, ℕ, List, ◌++◌, Some, refl, sym, ap, ◌∙◌}
use Rattle.std.specs.Prelude.{filter, flat_map}
use Rattle.mesh_base.specs.declared.event.Event.{Event}
use Rattle.mesh_model.specs.Run.Passing.{events_since}
use Rattle.mesh_model.specs.Text.Events.{event_line, is_shown}
use Rattle.mesh_scene.proofs.PassLemmas.{advances, passes}
use Rattle.mesh_scene.proofs.scene.Scene.pass.Goals as goal

pub returns-clause-ok : goal.returns-clause-ok
returns-clause-ok g c = λ state stands.
    let scene = c.args.self.now in
    passes g.A.Choosable.algorithm g.A.Algo.queries g.A.Algo.stands c.args.end state scene _ c.run_some.new.self c.cut.new.self c.run_some.new.log c.put_events.new.out.items c.run_some.result c.in-Some.passage stands
    (record { net_is = refl; names_are = refl; ends_are = refl }) c.requires.within (sym c.passage_of.ensures ∙ c.in-Some.is)
    (c.run_some.ensures.ran state.choice state.clock state.mesh stands.net_is) (c.run_some.ensures.cause state.choice state.clock state.mesh stands.net_is)
    (λ after. ap (λ (old : List Event). old ++ filter (is_shown state.choice) (events_since state.mesh after)) c.cut.ensures.kept)
    (c.in_ok-put_events.ensures.ok ∙ ap (λ (old : List ℕ). old ++ flat_map (event_line scene.names) c.run_some.new.log) c.requires.empty)

pub returns-clause-advances : goal.returns-clause-advances
returns-clause-advances g c = λ going.
    let at = c.requires.somewhere in
    let state = at.state in
    let is : Some c.in-Some.passage ≡ Some _ = cc in
    advances g.A.Algo.queries g.A.Algo.stands c.args.end state c.args.self.now.net c.run_some.new.self c.cut.new.self c.run_some.new.log c.run_some.result at.standing.net_is c.requires.later
    (sym c.passage_of.ensures ∙ c.in-Some.is ∙ is) (c.run_some.ensures.ran state.choice state.clock state.mesh at.standing.net_is)
