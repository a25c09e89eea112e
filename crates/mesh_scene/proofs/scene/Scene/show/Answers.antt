use Rattle.std.proofs.Common.{ℕ, sym, subst}
use Rattle.std.proofs.lemmas.Result.{err_from_is_err_and}
use Rattle.mesh_model.specs.Net.Limits.{scenario_setup}
use Rattle.mesh_show.specs.Shown.{IsNodeAt}
use Rattle.mesh_scene.proofs.TableLemmas.{show_carries, show_fails}
use Rattle.mesh_scene.proofs.scene.Scene.show.Goals as goal

pub returns-in_err-node : goal.returns-in_err-node
returns-in_err-node g c = λ state stands.
    let p = err_from_is_err_and c.from_residual.result c.from_residual.ensures.1 in
    rw (p.1, p.2) (show_fails (scenario_setup g.A.Algo.queries) state c.args.name.now c.args.table c.in_err-node.field-0.0 (c.in_err-node.ensures.unknown state stands))

pub returns : goal.returns
returns g c = λ state stands.
    let of = c.in_ok-node.ensures.found state stands in
    let now = c.now-now.ensures state.choice state.clock state.mesh stands.net_is in
    let old = c.args.text.now.items in
    let new = c.show_table.new.out.items in
    let kept = subst (λ (at : ℕ). IsNodeAt g.A.Algo.queries g.A.Algo.stands c.in_ok-node.node.now c.args.name.now at of.row) (sym now) of.kept in
    let gains = c.in_ok-show_table.ensures.ok state of.row (record { algorithm_is = stands.algorithm_is; names_are = sym stands.names_are; clock_is = sym now }) kept in
    show_carries g.A.Choosable.algorithm g.A.Algo.queries g.A.Algo.stands state c.args.self.now c.args.name.now c.args.table of.place of.row old new stands of.allowed of.at of.found c.requires.empty gains
