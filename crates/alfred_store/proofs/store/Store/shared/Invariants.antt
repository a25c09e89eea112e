use Rattle.std.proofs.Common.{◌≡◌, ◌++◌, drop, filter, map}
use Rattle.mesh_model.specs.declared.service.KeptFact.{KeptFact}
use Rattle.alfred_store.specs.Shares.{is_shared}
use Rattle.alfred_store.proofs.store.Store.shared.Given as goal

abbrev pub invariant-loop-kept : goal.invariant-loop-kept
invariant-loop-kept l =
    map (λ (kept : KeptFact). kept.fact) (filter (λ (kept : KeptFact). is_shared l.share kept.mark) (map (λ kept. kept.now) l.kept-items))
    ≡ map (λ fact. fact.now) l.rows.items ++ map (λ (kept : KeptFact). kept.fact) (filter (λ (kept : KeptFact). is_shared l.share kept.mark) (map (λ kept. kept.now) (drop l.kept-index l.kept-items)))
