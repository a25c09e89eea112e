use Rattle.std.proofs.Common.{◌≡◌, ◌++◌, filter_map, Some}
use Rattle.mesh_model.specs.Knowledge.Known.{Knowledge}
use Rattle.mesh_model.specs.Knowledge.Pairs.{pair_nodes}
use Rattle.mesh_serv.specs.OffersStand.{offered}
use Rattle.node_ground.specs.KnowledgeStands.{KnowledgeStands}
use Rattle.node_ground.specs.PairRows.{keeper_of}
use Rattle.node_ground.proofs.knowledge.NodeKnowledge.pair_nodes.Given as goal

abbrev pub invariant-loop-orig : goal.invariant-loop-orig
invariant-loop-orig g l = (known : Knowledge) → KnowledgeStands g.A.Algo.stands l.self l.fn.me known
    → pair_nodes (g.A.Algo.queries l.fn.me) l.fn.me known l.now ≡ l.nodes.items ++ filter_map (λ e. keeper_of (g.A.Algo.queries l.fn.me) known l.now e.0 (Some (offered e.1))) l.orig-iterator
