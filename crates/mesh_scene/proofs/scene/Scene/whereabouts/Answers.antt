use Rattle.std.proofs.Common.{sym, ◌∙◌}
use Rattle.mesh_scene.proofs.NameLemmas.{at_gateway, at_lan}
use Rattle.mesh_scene.proofs.PlaceLemmas.{lan_within}
use Rattle.mesh_scene.proofs.scene.Scene.whereabouts.Goals as goal

pub returns-then-is_attached-clause-refused : goal.returns-then-is_attached-clause-refused
returns-then-is_attached-clause-refused g c = λ state on_lan on_node stands.
    rw c.refused.ensures (at_gateway state c.args.name.now on_lan on_node (sym (c.is_attached.ensures state stands) ∙ c.if-is_attached.true))

pub returns-in-Some-clause-found : goal.returns-in-Some-clause-found
returns-in-Some-clause-found g c = λ state on_lan on_node stands.
    at_lan state c.args.name.now on_lan on_node c.in-Some.lan (sym (c.is_attached.ensures state stands) ∙ c.if-is_attached.false) (sym (c.lan_place_of.ensures state stands) ∙ c.in-Some.is)

pub returns-in-Some-clause-within : goal.returns-in-Some-clause-within
returns-in-Some-clause-within g c = λ state stands. lan_within state c.args.name.now c.in-Some.lan (sym (c.lan_place_of.ensures state stands) ∙ c.in-Some.is)
