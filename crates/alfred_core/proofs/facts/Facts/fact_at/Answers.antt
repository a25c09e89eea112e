use Rattle.std.proofs.Common.{◌≡◌, ◌↔◌, ◌≤◌, IsNone, None, Some, length, slice_get, subst, sym, rules}
use Rattle.mesh_model.specs.declared.service.KeptFact.{KeptFact}
use Rattle.mesh_model.specs.Services.Facts.{facts_at}
use Rattle.alfred_core.proofs.FactLemmas.{none_past_end}
use Rattle.alfred_core.proofs.facts.Facts.fact_at.Goals as goal

pub returns-in_err-kept-clause-past_end : goal.returns-in_err-kept-clause-past_end
returns-in_err-kept-clause-past_end c =
    λ me calls stands.
    let found = c.live_at.ensures me calls stands in
    let none : None ≡ slice_get (facts_at calls c.args.now) c.args.i = search (rules, found) in
    let is_none : c.from_residual.result ≡ None = search rules in
    subst (λ o. IsNone o ↔ (length (facts_at calls c.args.now) ≤ c.args.i)) (sym is_none)
    (none_past_end (λ (kept : KeptFact). kept) (facts_at calls c.args.now) c.args.i None none)

pub returns-clause-past_end : goal.returns-clause-past_end
returns-clause-past_end c =
    λ me calls stands.
    let found = c.live_at.ensures me calls stands in
    let some : Some c.in_ok-kept.kept.now ≡ slice_get (facts_at calls c.args.now) c.args.i = search (rules, found) in
    none_past_end (λ (kept : KeptFact). kept) (facts_at calls c.args.now) c.args.i (Some c.in_ok-kept.kept.now) some
