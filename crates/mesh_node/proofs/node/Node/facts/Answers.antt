use Rattle.mesh_model.specs.Knowledge.Steps.{knowledge}
use Rattle.mesh_node.proofs.node.Node.facts.Goals as goal

pub returns : goal.returns
returns g c = λ me log is. c.in_ok-rows.ensures me (knowledge (g.A.Algo.queries me) me log).services.facts is.keeps.kept.services.store.facts
