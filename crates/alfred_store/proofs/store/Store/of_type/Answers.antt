use Rattle.std.proofs.Common.{◌≡◌, ◌==◌, ◌++◌, ◌∙◌, [], ap, arith, drop, filter, map, sym}
use Rattle.std.proofs.lemmas.Grind.{common_steps}
use Rattle.std.proofs.lemmas.List.{append-nil}
use Rattle.mesh_model.specs.declared.service.KeptFact.{KeptFact}
use Rattle.mesh_model.specs.declared.service.Fact.{Fact}
use Rattle.alfred_store.proofs.store.Store.of_type.Goals as goal

pub returns : goal.returns
returns c =
    λ me known stands.
    let told = λ (rows : _). filter (λ (fact : Fact). fact.type_no == c.args.type_no) (map (λ (kept : KeptFact). kept.fact) rows) in
    let rows = map (λ fact. fact.now) c.loop-kept.rows.items in
    let none : drop c.loop-kept.kept-index c.deref-kept-items.result.now ≡ [] = grind (arith, common_steps) in
    sym (c.loop-kept.invariant ∙ ap (λ rest. rows ++ told (map (λ kept. kept.now) rest)) none ∙ append-nil rows)
    ∙ ap (λ items. told (map (λ kept. kept.now) items)) c.deref-kept-items.ensures.value
    ∙ ap told (c.in_ok-live.ensures me known.services.facts stands.facts)
