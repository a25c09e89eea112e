use Rattle.std.proofs.Common.{refl, ◌∙◌}
use Rattle.std.proofs.lemmas.Result.{on_err_weaker, on_ok_weaker}
use Rattle.mesh_model.specs.Net.Due.{first_ticks}
use Rattle.mesh_model.specs.Net.Sending.{with_put}
use Rattle.mesh_model.specs.Net.Limits.{scenario_setup}
use Rattle.mesh_net.specs.NetStands.{line_put}
use Rattle.mesh_net.proofs.Ends.{carried_put, cut_back}
use Rattle.mesh_net.proofs.LineCalls.{line_carried, line_cause, line_net}
use Rattle.mesh_net.proofs.RightLemmas.{put_rightly}
use Rattle.mesh_net.proofs.net.Net.lan_frame.Goals as goal

pub returns-clause-carried : goal.returns-clause-carried
returns-clause-carried g c = λ choice clock mesh s.
    let q = g.A.Algo.queries in
    let st = g.A.Algo.stands in
    let net = c.args.self.now in
    line_carried q st net c.put_now-given.new.self c.settle.new.self choice clock mesh c.args.log.now c.put_now-given.new.log c.settle.new.log c.put_now-given.result c.settle.result
    (λ k. with_put (scenario_setup q) (line_put c.args.lan c.args.bytes k) mesh) s c.settle.ensures.ok (c.put_now-given.ensures.given choice mesh.last (first_ticks 0 mesh.nodes) mesh)
    (λ now done told. carried_put q st net c.put_now-given.new.self c.settle.new.self choice mesh c.args.log.now c.put_now-given.new.log c.settle.new.log now c.put_now-given.ensures.kept done told (line_put c.args.lan c.args.bytes net.clock) refl refl (c.requires.known choice clock mesh s))

pub returns-clause-right : goal.returns-clause-right
returns-clause-right g c = λ choice clock mesh after s is.
    on_ok_weaker c.settle.result (λ done. put_rightly g.A.Algo.queries g.A.Algo.stands c.settle.new.self choice clock mesh after c.args.log.now c.settle.new.log (line_put c.args.lan c.args.bytes clock)
    (c.requires.known choice clock mesh s) refl is done)
    (returns-clause-carried g c choice clock mesh s)

pub returns-clause-cause : goal.returns-clause-cause
returns-clause-cause g c = λ choice clock mesh s.
    let q = g.A.Algo.queries in
    line_cause q g.A.Algo.stands c.args.self.now choice clock mesh c.put_now-given.result c.settle.result (λ k. with_put (scenario_setup q) (line_put c.args.lan c.args.bytes k) mesh) s c.settle.ensures.cause
    (c.put_now-given.ensures.cause choice mesh.last (first_ticks 0 mesh.nodes) mesh)

pub returns-clause-as_before : goal.returns-clause-as_before
returns-clause-as_before g c =
    on_err_weaker c.settle.result (λ cut. cut ∙ cut_back c.args.log.now c.put_now-given.new.log c.len-before.result c.len-before.ensures c.put_now-given.ensures.grew) c.settle.ensures.cut

pub returns-clause-net : goal.returns-clause-net
returns-clause-net g c =
    let q = g.A.Algo.queries in
    line_net q g.A.Algo.stands c.args.self.now c.settle.new.self c.args.log.now c.settle.new.log c.settle.result (λ clock mesh. with_put (scenario_setup q) (line_put c.args.lan c.args.bytes clock) mesh)
    c.requires.net c.if-self.false c.settle.ensures.refused (returns-clause-carried g c)
