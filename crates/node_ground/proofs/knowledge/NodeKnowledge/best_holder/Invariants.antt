use Rattle.mesh_base.specs.declared.address.Mac.{Mac}
use Rattle.mesh_model.specs.Knowledge.Known.{Knowledge}
use Rattle.node_ground.specs.KnowledgeStands.{KnowledgeStands}
use Rattle.node_ground.proofs.HolderLemmas.{IsWalked}
use Rattle.node_ground.proofs.knowledge.NodeKnowledge.best_holder.Given as goal

abbrev pub invariant-loop-i : goal.invariant-loop-i
invariant-loop-i g l = (me : Mac) (known : Knowledge) → KnowledgeStands g.A.Algo.stands l.self me known
    → IsWalked (g.A.Algo.queries me) known l.now l.key l.best l.i l.i-end
