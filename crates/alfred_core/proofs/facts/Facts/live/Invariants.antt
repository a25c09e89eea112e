use Rattle.std.proofs.Common.{◌≡◌, ◌++◌, filter, map}
use Rattle.mesh_model.specs.declared.service.KeptFact.{KeptFact}
use Rattle.mesh_model.specs.declared.service.FactKey.{FactKey}
use Rattle.mesh_model.specs.Services.Facts.{is_live_fact}
use Rattle.alfred_core.proofs.facts.Facts.live.Given as goal

abbrev pub invariant-loop-kept : goal.invariant-loop-kept
invariant-loop-kept l =
    filter (is_live_fact l.now) (map (λ (e : FactKey × KeptFact). e.1) l.self.kept) ≡ map (λ kept. kept.now) l.rows.items ++ filter (is_live_fact l.now) l.kept-iterator
