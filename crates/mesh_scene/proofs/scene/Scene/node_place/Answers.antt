use Rattle.std.proofs.Common.{sym, ap, ◌∙◌}
use Rattle.std.specs.Prelude.{is_some}
use Rattle.mesh_scene.proofs.NameLemmas.{of_lan, of_node, of_none}
use Rattle.mesh_scene.proofs.scene.Scene.node_place.Goals as goal

pub returns-then-is_some-clause-refused : goal.returns-then-is_some-clause-refused
returns-then-is_some-clause-refused g c = λ state stands.
    rw c.refused.ensures (of_lan state c.args.name.now (ap is_some (sym (c.lan_place_of.ensures state stands)) ∙ sym c.is_some.ensures ∙ c.if-is_some.true))

pub returns-in_default-clause-refused : goal.returns-in_default-clause-refused
returns-in_default-clause-refused g c = λ state stands.
    rw c.refused-in_default.ensures (of_none state c.args.name.now (ap is_some (sym (c.lan_place_of.ensures state stands)) ∙ sym c.is_some.ensures ∙ c.if-is_some.false) (sym (c.place_of.ensures state stands) ∙ c.in_default.is))

pub returns-clause-found : goal.returns-clause-found
returns-clause-found g c = λ state stands.
    let at = sym (c.place_of.ensures state stands) ∙ c.in-Some.is in
    record {
      allowed = of_node state c.args.name.now c.in-Some.place (ap is_some (sym (c.lan_place_of.ensures state stands)) ∙ sym c.is_some.ensures ∙ c.if-is_some.false) at;
      at = at;
    }
