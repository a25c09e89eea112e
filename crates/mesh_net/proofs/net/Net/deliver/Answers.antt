use Rattle.std.proofs.Common.{◌-◌, ◌∙◌, subst}
use Rattle.std.specs.Result.{OnOk, IfErr}
use Rattle.std.proofs.lemmas.Result.{on_err_weaker, on_ok_weaker}
use Rattle.mesh_model.specs.Net.Due.{first_ticks}
use Rattle.mesh_model.specs.Net.Runs.{delivered}
use Rattle.mesh_model.specs.Net.Limits.{scenario_setup}
use Rattle.mesh_net.specs.Tells.{Carried, StepTells}
use Rattle.mesh_net.proofs.Ends.{carried_frame, cut_back, has_nodes, live_of, on_links}
use Rattle.mesh_net.proofs.LineCalls.{line_carried, line_cause, line_net}
use Rattle.mesh_net.proofs.RightLemmas.{deliver_rightly}
use Rattle.mesh_net.proofs.net.Net.deliver.Goals as goal

pub deliver_at-given-requires : goal.deliver_at-given-requires
deliver_at-given-requires g c =
    has_nodes g.A.Algo.queries g.A.Algo.stands c.args.self.now (live_of g.A.Algo.queries g.A.Algo.stands c.args.self.now c.requires c.if-self.false)

pub returns-clause-carried : goal.returns-clause-carried
returns-clause-carried g c = λ choice clock mesh s.
    let q = g.A.Algo.queries in
    let st = g.A.Algo.stands in
    let net = c.args.self.now in
    let place = c.saturating_sub.result in
    subst (λ p. OnOk c.settle.result (Carried q st c.settle.new.self choice clock mesh c.args.log.now c.settle.new.log (delivered (scenario_setup q) p clock mesh))) c.saturating_sub.ensures
    (line_carried q st net c.deliver_at-given.new.self c.settle.new.self choice clock mesh c.args.log.now c.deliver_at-given.new.log c.settle.new.log c.deliver_at-given.result c.settle.result
    (λ k. delivered (scenario_setup q) place k mesh) s c.settle.ensures.ok (λ begun. c.deliver_at-given.ensures.given choice mesh.last (first_ticks 0 mesh.nodes) mesh begun (on_links q st net choice clock mesh s))
    (λ now done told. carried_frame q st net c.deliver_at-given.new.self c.settle.new.self choice mesh c.args.log.now c.deliver_at-given.new.log c.settle.new.log now c.deliver_at-given.ensures.kept done told place))

pub returns-clause-right : goal.returns-clause-right
returns-clause-right g c = λ choice clock mesh after s is.
    on_ok_weaker c.settle.result (λ done. deliver_rightly g.A.Algo.queries g.A.Algo.stands c.settle.new.self choice clock mesh after c.args.log.now c.settle.new.log (c.args.number - 1) s.reached is done)
    (returns-clause-carried g c choice clock mesh s)

pub returns-clause-cause : goal.returns-clause-cause
returns-clause-cause g c = λ choice clock mesh s.
    let q = g.A.Algo.queries in
    let st = g.A.Algo.stands in
    let net = c.args.self.now in
    subst (λ p. IfErr c.settle.result (StepTells (delivered (scenario_setup q) p clock mesh))) c.saturating_sub.ensures
    (line_cause q st net choice clock mesh c.deliver_at-given.result c.settle.result (λ k. delivered (scenario_setup q) c.saturating_sub.result k mesh) s c.settle.ensures.cause
    (λ begun. c.deliver_at-given.ensures.cause choice mesh.last (first_ticks 0 mesh.nodes) mesh begun (on_links q st net choice clock mesh s)))

pub returns-clause-as_before : goal.returns-clause-as_before
returns-clause-as_before g c =
    on_err_weaker c.settle.result (λ cut. cut ∙ cut_back c.args.log.now c.deliver_at-given.new.log c.len-before.result c.len-before.ensures c.deliver_at-given.ensures.grew) c.settle.ensures.cut

pub returns-clause-net : goal.returns-clause-net
returns-clause-net g c =
    let q = g.A.Algo.queries in
    line_net q g.A.Algo.stands c.args.self.now c.settle.new.self c.args.log.now c.settle.new.log c.settle.result (λ clock mesh. delivered (scenario_setup q) (c.args.number - 1) clock mesh)
    c.requires c.if-self.false c.settle.ensures.refused (returns-clause-carried g c)
