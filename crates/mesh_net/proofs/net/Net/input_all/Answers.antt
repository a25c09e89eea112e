use Rattle.std.proofs.Common.{◌∙◌}
use Rattle.std.proofs.lemmas.Result.{on_err_weaker, on_ok_weaker}
use Rattle.mesh_model.specs.Net.Due.{first_ticks}
use Rattle.mesh_model.specs.Net.Inputs.{all_given}
use Rattle.mesh_model.specs.Net.Limits.{scenario_setup}
use Rattle.mesh_model.specs.Net.Lans.{gateways_at}
use Rattle.mesh_node.specs.NodeStands.{given_by}
use Rattle.mesh_net.proofs.Ends.{carried_all, cut_back, has_stage, live_of}
use Rattle.mesh_net.proofs.LineCalls.{line_carried, line_cause, line_net}
use Rattle.mesh_net.proofs.InputLemmas.{line_tickless}
use Rattle.mesh_net.proofs.RightLemmas.{all_input_rightly}
use Rattle.mesh_net.proofs.net.Net.input_all.Goals as goal

pub give_gateways-given-requires-clause-tickless : goal.give_gateways-given-requires-clause-tickless
give_gateways-given-requires-clause-tickless g c = line_tickless 0 c.args.input.now c.requires.line

pub give_gateways-given-requires-clause-stage : goal.give_gateways-given-requires-clause-stage
give_gateways-given-requires-clause-stage g c =
    has_stage g.A.Algo.queries g.A.Algo.stands c.args.self.now (live_of g.A.Algo.queries g.A.Algo.stands c.args.self.now c.requires.net c.if-self.false)

pub returns-clause-carried : goal.returns-clause-carried
returns-clause-carried g c = λ choice clock mesh s.
    let q = g.A.Algo.queries in
    let st = g.A.Algo.stands in
    let net = c.args.self.now in
    line_carried q st net c.give_gateways-given.new.self c.settle.new.self choice clock mesh c.args.log.now c.give_gateways-given.new.log c.settle.new.log c.give_gateways-given.result c.settle.result
    (λ k. all_given (scenario_setup q) (gateways_at c.args.lan mesh.lans) k (given_by 0 c.args.input.now) mesh) s c.settle.ensures.ok (c.give_gateways-given.ensures.given choice mesh.last (first_ticks 0 mesh.nodes) mesh)
    (λ now done told. carried_all q st net c.give_gateways-given.new.self c.settle.new.self choice mesh c.args.log.now c.give_gateways-given.new.log c.settle.new.log now c.give_gateways-given.ensures.kept done told (gateways_at c.args.lan mesh.lans) (given_by 0 c.args.input.now) c.requires.line)

pub returns-clause-right : goal.returns-clause-right
returns-clause-right g c = λ choice clock mesh after s is.
    on_ok_weaker c.settle.result (λ done. all_input_rightly g.A.Algo.queries g.A.Algo.stands c.settle.new.self choice clock mesh after c.args.log.now c.settle.new.log (gateways_at c.args.lan mesh.lans) (given_by 0 c.args.input.now) c.requires.line s.reached is done)
    (returns-clause-carried g c choice clock mesh s)

pub returns-clause-cause : goal.returns-clause-cause
returns-clause-cause g c = λ choice clock mesh s.
    let q = g.A.Algo.queries in
    line_cause q g.A.Algo.stands c.args.self.now choice clock mesh c.give_gateways-given.result c.settle.result (λ k. all_given (scenario_setup q) (gateways_at c.args.lan mesh.lans) k (given_by 0 c.args.input.now) mesh) s c.settle.ensures.cause
    (c.give_gateways-given.ensures.cause choice mesh.last (first_ticks 0 mesh.nodes) mesh)

pub returns-clause-as_before : goal.returns-clause-as_before
returns-clause-as_before g c =
    on_err_weaker c.settle.result (λ cut. cut ∙ cut_back c.args.log.now c.give_gateways-given.new.log c.len-before.result c.len-before.ensures c.give_gateways-given.ensures.grew) c.settle.ensures.cut

pub returns-clause-net : goal.returns-clause-net
returns-clause-net g c =
    let q = g.A.Algo.queries in
    line_net q g.A.Algo.stands c.args.self.now c.settle.new.self c.args.log.now c.settle.new.log c.settle.result (λ clock mesh. all_given (scenario_setup q) (gateways_at c.args.lan mesh.lans) clock (given_by 0 c.args.input.now) mesh)
    c.requires.net c.if-self.false c.settle.ensures.refused (returns-clause-carried g c)
