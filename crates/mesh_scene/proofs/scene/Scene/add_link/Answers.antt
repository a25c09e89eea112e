use Rattle.std.proofs.Common.{refl, sym, ◌∙◌, arith}
use Rattle.std.proofs.lemmas.Result.{err_from_is_err_and}
use Rattle.mesh_model.specs.Net.Limits.{scenario_setup}
use Rattle.mesh_scene.proofs.PlaceLemmas.{linked}
use Rattle.mesh_scene.proofs.TopologyLemmas.{from_fails, link_carries, link_fails, link_same, link_taken, to_fails}
use Rattle.mesh_scene.proofs.scene.Scene.add_link.Goals as goal

pub returns-in_err-start : goal.returns-in_err-start
returns-in_err-start g c = λ state stands.
    let p = err_from_is_err_and c.from_residual.result c.from_residual.ensures.1 in
    let link = c.args.link.now in
    rw (p.1, p.2) (from_fails (scenario_setup g.A.Algo.queries) state c.args.from.now c.args.to.now link.pattern link.delay link.tp c.in_err-start.field-0.0 (c.in_err-start.ensures.refused state stands))

pub returns-in_err-end : goal.returns-in_err-end
returns-in_err-end g c = λ state stands.
    let p = err_from_is_err_and c.from_residual-in_err-end.result c.from_residual-in_err-end.ensures.1 in
    let link = c.args.link.now in
    let starts = c.in_ok-start.ensures.found state stands in
    rw (p.1, p.2) (to_fails (scenario_setup g.A.Algo.queries) state c.args.from.now c.args.to.now link.pattern link.delay link.tp c.in_err-end.field-0.0 starts.allowed (c.in_err-end.ensures.refused state stands))

pub returns-then-eq : goal.returns-then-eq
returns-then-eq g c = λ state stands.
    let link = c.args.link.now in
    let starts = c.in_ok-start.ensures.found state stands in
    let ends = c.in_ok-end.ensures.found state stands in
    rw c.refused.ensures (link_same (scenario_setup g.A.Algo.queries) state c.args.from.now c.args.to.now link.pattern link.delay link.tp starts.allowed ends.allowed (sym c.eq.ensures ∙ c.if-eq.true))

pub returns-then-is_linked : goal.returns-then-is_linked
returns-then-is_linked g c = λ state stands.
    let scene = c.args.self.now in
    let link = c.args.link.now in
    let starts = c.in_ok-start.ensures.found state stands in
    let ends = c.in_ok-end.ensures.found state stands in
    let apart = sym c.eq.ensures ∙ c.if-eq.false in
    rw c.refused-then-is_linked.ensures (link_taken (scenario_setup g.A.Algo.queries) state c.args.from.now c.args.to.now link.pattern link.delay link.tp c.in_ok-start.start c.in_ok-end.end starts ends apart
    (sym (linked g.A.Choosable.algorithm g.A.Algo.queries g.A.Algo.stands scene state c.in_ok-start.start c.in_ok-end.end stands) ∙ sym c.is_linked.ensures ∙ c.if-is_linked.true))

pub returns-in_err-add_link : goal.returns-in_err-add_link
returns-in_err-add_link g c = λ state stands.
    let p = err_from_is_err_and c.from_residual-in_err-add_link.result c.from_residual-in_err-add_link.ensures.1 in
    let scene = c.args.self.now in
    let link = c.args.link.now in
    let starts = c.in_ok-start.ensures.found state stands in
    let ends = c.in_ok-end.ensures.found state stands in
    let apart = sym c.eq.ensures ∙ c.if-eq.false in
    rw (p.1, p.2) (link_fails (scenario_setup g.A.Algo.queries) state c.args.from.now c.args.to.now link.pattern link.delay link.tp c.in_ok-start.start c.in_ok-end.end c.in_err-add_link.field-0.0 starts ends apart
    (sym (linked g.A.Choosable.algorithm g.A.Algo.queries g.A.Algo.stands scene state c.in_ok-start.start c.in_ok-end.end stands) ∙ sym c.is_linked.ensures ∙ c.if-is_linked.false)
    (c.in_err-add_link.ensures.cause state.choice state.clock state.mesh stands.net_is))

pub returns : goal.returns
returns g c = λ state stands.
    let scene = c.args.self.now in
    let link = c.args.link.now in
    let starts = c.in_ok-start.ensures.found state stands in
    let ends = c.in_ok-end.ensures.found state stands in
    let apart = sym c.eq.ensures ∙ c.if-eq.false in
    let joined = c.in_ok-add_link.ensures.joins state.choice state.clock state.mesh stands.net_is in
    link_carries g.A.Choosable.algorithm g.A.Algo.queries g.A.Algo.stands state scene _ c.args.from.now c.args.to.now link.pattern link.delay link.tp c.in_ok-start.start c.in_ok-end.end stands starts ends apart
    (sym (linked g.A.Choosable.algorithm g.A.Algo.queries g.A.Algo.stands scene state c.in_ok-start.start c.in_ok-end.end stands) ∙ sym c.is_linked.ensures ∙ c.if-is_linked.false)
    (omega (arith, joined.room)) joined.standing refl c.in_ok-push.ensures.items
