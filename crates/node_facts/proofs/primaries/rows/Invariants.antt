use Rattle.std.proofs.Common.{◌≡◌, ◌++◌, map}
use Rattle.mesh_base.specs.declared.address.Mac.{Mac}
use Rattle.mesh_model.specs.Knowledge.FactStore.{primary_rows}
use Rattle.mesh_model.specs.Knowledge.Known.{Knowledge}
use Rattle.node_facts.specs.PrimaryRows.{row_at}
use Rattle.node_ground.specs.KnowledgeStands.{KnowledgeStands}
use Rattle.node_facts.proofs.primaries.rows.Given as goal

abbrev pub invariant-loop-primary : goal.invariant-loop-primary
invariant-loop-primary g l = (me : Mac) (known : Knowledge) → KnowledgeStands g.A.Algo.stands l.kept me known
    → primary_rows (g.A.Algo.queries me) known l.now ≡ l.rows.items ++ map (λ e. row_at (g.A.Algo.queries me) known l.now e.0 e.1) l.primary-iterator
