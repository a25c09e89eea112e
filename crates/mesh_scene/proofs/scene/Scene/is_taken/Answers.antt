use Rattle.std.proofs.Common.{◌||◌, sym, ap, ◌∙◌}
use Rattle.std.specs.Prelude.{is_some}
use Rattle.mesh_model.specs.Run.Demands.{is_known, is_known_lan}
use Rattle.mesh_scene.proofs.NameLemmas.{known_takes}
use Rattle.mesh_scene.proofs.PlaceLemmas.{lan_placed, placed}
use Rattle.mesh_scene.proofs.scene.Scene.is_taken.Goals as goal

pub returns-then-is_some : goal.returns-then-is_some
returns-then-is_some g c = λ state stands.
    let name = c.args.name.now in
    let known = sym (ap (λ o. is_some o) (c.node_place.ensures ∙ placed g.A.Choosable.algorithm g.A.Algo.queries g.A.Algo.stands c.args.self.now state name stands)) ∙ sym c.is_some.ensures ∙ c.if-is_some.true in
    c.if-is_some.true ∙ sym (known_takes (is_known state name) (is_known_lan state name) known)

pub returns-else-is_some : goal.returns-else-is_some
returns-else-is_some g c = λ state stands.
    let name = c.args.name.now in
    let known = sym (ap (λ o. is_some o) (c.node_place.ensures ∙ placed g.A.Choosable.algorithm g.A.Algo.queries g.A.Algo.stands c.args.self.now state name stands)) ∙ sym c.is_some.ensures ∙ c.if-is_some.false in
    c.is_some-else-is_some.ensures
    ∙ ap (λ o. is_some o) (c.lan_place.ensures ∙ lan_placed g.A.Choosable.algorithm g.A.Algo.queries g.A.Algo.stands c.args.self.now state name stands)
    ∙ sym (ap (λ b. b || is_known_lan state name) known)
