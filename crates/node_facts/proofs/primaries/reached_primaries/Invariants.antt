use Rattle.std.proofs.Common.{◌≡◌, ◌++◌, drop, filter, map}
use Rattle.mesh_base.specs.declared.address.Mac.{Mac}
use Rattle.mesh_model.specs.declared.service.PrimaryRow.{PrimaryRow}
use Rattle.mesh_model.specs.Knowledge.FactStore.{is_reached}
use Rattle.mesh_model.specs.Knowledge.Known.{Knowledge}
use Rattle.node_ground.specs.KnowledgeStands.{KnowledgeStands}
use Rattle.node_facts.proofs.primaries.reached_primaries.Given as goal

abbrev pub invariant-loop-row : goal.invariant-loop-row
invariant-loop-row g l = (me : Mac) (known : Knowledge) → KnowledgeStands g.A.Algo.stands l.kept me known
    → map (λ (row : PrimaryRow). row.orig) (filter (is_reached (g.A.Algo.queries me) known l.now) l.row-items)
    ≡ l.reached.items ++ map (λ (row : PrimaryRow). row.orig) (filter (is_reached (g.A.Algo.queries me) known l.now) (drop l.row-index l.row-items))
