use Rattle.std.proofs.Common.{sym, ap, ◌∙◌}
use Rattle.std.proofs.lemmas.Result.{err_from_is_err_and}
use Rattle.mesh_model.specs.Clients.Log.{Line}
use Rattle.mesh_scene.specs.Inner.AtNodes.{given_at}
use Rattle.mesh_scene.proofs.SessionLemmas.{node_fails, same_node, session_begins, target_fails}
use Rattle.mesh_scene.proofs.scene.Scene.target_of.Goals as goal

pub returns-in_err-node_place-clause-refused : goal.returns-in_err-node_place-clause-refused
returns-in_err-node_place-clause-refused g c = λ setup state line stands.
    let p = err_from_is_err_and c.from_residual.result c.from_residual.ensures.1 in
    rw (p.1, p.2) (node_fails setup state c.args.node.now c.args.target.now line c.in_err-node_place.field-0.0 (c.in_err-node_place.ensures.refused state stands))

pub returns-in_err-place-clause-refused : goal.returns-in_err-place-clause-refused
returns-in_err-place-clause-refused g c = λ setup state line stands.
    let p = err_from_is_err_and c.from_residual-in_err-place.result c.from_residual-in_err-place.ensures.1 in
    rw (p.1, p.2) (target_fails setup state c.args.node.now c.args.target.now line c.in_err-place.field-0.0 (c.in_ok-node_place.ensures.found state stands).allowed (c.in_err-place.ensures.refused state stands))

pub returns-then-eq-clause-refused : goal.returns-then-eq-clause-refused
returns-then-eq-clause-refused g c = λ setup state line stands.
    rw c.refused.ensures (same_node setup state c.args.node.now c.args.target.now line (c.in_ok-node_place.ensures.found state stands).allowed (c.in_ok-place.ensures.found state stands).allowed (sym c.eq.ensures ∙ c.if-eq.true))

pub returns-clause-found : goal.returns-clause-found
returns-clause-found g c = λ setup state line stands.
    session_begins setup state c.args.node.now c.args.target.now line c.in_ok-node_place.field-0 c.in_ok-place.place
    (c.in_ok-node_place.ensures.found state stands) (c.in_ok-place.ensures.found state stands) (sym c.eq.ensures ∙ c.if-eq.false)
    ∙ ap (λ mac. given_at setup c.args.node.now (Line (line mac)) state) (sym (c.address.ensures state.choice state.clock state.mesh stands.net_is))
