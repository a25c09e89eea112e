use Rattle.std.proofs.Common.{sym, ◌∙◌, arith}
use Rattle.mesh_scene.proofs.NetLemmas.{net_sound}
use Rattle.mesh_scene.proofs.PlaceLemmas.{place_within, placed}
use Rattle.mesh_scene.proofs.scene.Scene.place_of.Goals as goal

pub overflow_cast-result : goal.overflow_cast-result
overflow_cast-result g c =
    let at = c.requires.somewhere in
    let state = at.state in
    let sound = net_sound g.A.Algo.queries g.A.Algo.stands c.args.self.now.net state.choice state.clock state.mesh at.standing.net_is in
    let is = sym (placed g.A.Choosable.algorithm g.A.Algo.queries g.A.Algo.stands c.args.self.now state c.args.name.now at.standing) ∙ sym c.node_place.ensures ∙ c.in-Some.is in
    omega (arith, place_within state c.args.name.now c.in-Some.place is, sound.few_nodes)

pub returns-in-Some : goal.returns-in-Some
returns-in-Some g c = λ state stands. sym c.in-Some.is ∙ c.node_place.ensures ∙ placed g.A.Choosable.algorithm g.A.Algo.queries g.A.Algo.stands c.args.self.now state c.args.name.now stands

pub returns-in-None : goal.returns-in-None
returns-in-None g c = λ state stands. sym c.in-None.is ∙ c.node_place.ensures ∙ placed g.A.Choosable.algorithm g.A.Algo.queries g.A.Algo.stands c.args.self.now state c.args.name.now stands
