use Rattle.std.proofs.Common.{◌≡◌, ◌++◌, filter_map, Some}
use Rattle.mesh_base.specs.declared.address.Mac.{Mac}
use Rattle.mesh_model.specs.Knowledge.Known.{Knowledge}
use Rattle.mesh_model.specs.Knowledge.Offers.{receivers}
use Rattle.mesh_serv.specs.OffersStand.{offered}
use Rattle.node_ground.specs.KnowledgeStands.{KnowledgeStands}
use Rattle.node_ground.specs.ServiceRows.{receiver_of}
use Rattle.node_ground.proofs.knowledge.NodeKnowledge.receivers.Given as goal

abbrev pub invariant-loop-orig : goal.invariant-loop-orig
invariant-loop-orig g l = (me : Mac) (known : Knowledge) → KnowledgeStands g.A.Algo.stands l.self me known
    → receivers (g.A.Algo.queries me) known l.now l.key ≡ l.rows.items ++ filter_map (λ e. receiver_of (g.A.Algo.queries me) known l.now l.key e.0 (Some (offered e.1))) l.orig-iterator
