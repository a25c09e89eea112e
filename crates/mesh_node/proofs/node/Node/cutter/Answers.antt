use Rattle.std.proofs.Common.{◌∙◌}
use Rattle.mesh_node.proofs.CutCounts.{cutter_is}
use Rattle.mesh_node.proofs.node.Node.cutter.Goals as goal

pub returns-clause-cuts : goal.returns-clause-cuts
returns-clause-cuts g c = λ me log is. c.new.ensures.is ∙ cutter_is g.A.Algo.stands g.A.Algo.queries c.args.self.now me log is
