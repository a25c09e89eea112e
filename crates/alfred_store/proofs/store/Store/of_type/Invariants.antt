use Rattle.std.proofs.Common.{◌≡◌, ◌++◌, ◌==◌, drop, filter, map}
use Rattle.mesh_model.specs.declared.service.Fact.{Fact}
use Rattle.mesh_model.specs.declared.service.KeptFact.{KeptFact}
use Rattle.alfred_store.proofs.store.Store.of_type.Given as goal

abbrev pub invariant-loop-kept : goal.invariant-loop-kept
invariant-loop-kept l =
    filter (λ (fact : Fact). fact.type_no == l.type_no) (map (λ (kept : KeptFact). kept.fact) (map (λ kept. kept.now) l.kept-items))
    ≡ map (λ fact. fact.now) l.rows.items ++ filter (λ (fact : Fact). fact.type_no == l.type_no) (map (λ (kept : KeptFact). kept.fact) (map (λ kept. kept.now) (drop l.kept-index l.kept-items)))
