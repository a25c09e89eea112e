use Rattle.std.proofs.Common.{sym, ◌∙◌, arith}
use Rattle.mesh_scene.proofs.NetLemmas.{lans_few}
use Rattle.mesh_scene.proofs.PlaceLemmas.{lan_placed, lan_within}
use Rattle.mesh_scene.proofs.scene.Scene.lan_place_of.Goals as goal

pub overflow_cast-result : goal.overflow_cast-result
overflow_cast-result g c =
    let at = c.requires.somewhere in
    let state = at.state in
    let few = lans_few g.A.Algo.queries g.A.Algo.stands c.args.self.now.net state.choice state.clock state.mesh at.standing.net_is in
    let is = sym (lan_placed g.A.Choosable.algorithm g.A.Algo.queries g.A.Algo.stands c.args.self.now state c.args.name.now at.standing) ∙ sym c.lan_place.ensures ∙ c.in-Some.is in
    omega (arith, lan_within state c.args.name.now c.in-Some.place is, few)

pub returns-in-Some : goal.returns-in-Some
returns-in-Some g c = λ state stands. sym c.in-Some.is ∙ c.lan_place.ensures ∙ lan_placed g.A.Choosable.algorithm g.A.Algo.queries g.A.Algo.stands c.args.self.now state c.args.name.now stands

pub returns-in-None : goal.returns-in-None
returns-in-None g c = λ state stands. sym c.in-None.is ∙ c.lan_place.ensures ∙ lan_placed g.A.Choosable.algorithm g.A.Algo.queries g.A.Algo.stands c.args.self.now state c.args.name.now stands
