use Rattle.std.proofs.Common.{◌≡◌, sym, ap₂, subst, ◌∙◌, true, false}
use Rattle.mesh_model.specs.declared.service.FactKey.{FactKey}
use Rattle.mesh_model.specs.declared.service.KeptFact.{KeptFact}
use Rattle.mesh_model.specs.Services.Facts.{CameFrom, kept_fact, mark_from, stays_kept}
use Rattle.alfred_core.specs.Facts.{IsKeptBy}
use Rattle.alfred_core.proofs.FactLemmas.{stays_as_before, taken_is_kept}
use Rattle.alfred_core.proofs.facts.Facts.take.Goals as goal

pub returns-then-stays-clause-ok : goal.returns-then-stays-clause-ok
returns-then-stays-clause-ok c =
    λ me calls stands.
    let stays : stays_kept c.args.now (mark_from c.args.sender c.args.fact.now) (kept_fact calls c.args.fact.now.source c.args.fact.now.type_no) ≡ true
    = sym (ap₂ (λ mark (key : FactKey). stays_kept c.args.now mark (kept_fact calls key.source key.type_no)) c.mark_from-mark.ensures c.key_of.ensures) ∙ sym (c.stays.ensures me calls stands) ∙ c.if-stays.true in
    stays_as_before c.args.now c.args.sender c.args.fact.now c.args.self.now me calls stays stands

pub returns-clause-ok : goal.returns-clause-ok
returns-clause-ok c =
    λ me calls stands.
    let goes : stays_kept c.args.now (mark_from c.args.sender c.args.fact.now) (kept_fact calls c.args.fact.now.source c.args.fact.now.type_no) ≡ false
    = sym (ap₂ (λ mark (key : FactKey). stays_kept c.args.now mark (kept_fact calls key.source key.type_no)) c.mark_from-mark.ensures c.key_of.ensures) ∙ sym (c.stays.ensures me calls stands) ∙ c.if-stays.false in
    c.in_ok-keep.ensures.ok me calls (CameFrom c.args.now c.args.sender c.args.fact.now) stands
    (subst (λ (one : KeptFact). IsKeptBy (CameFrom c.args.now c.args.sender c.args.fact.now) calls one) (ap₂ (λ mark fact. record { moment = c.args.now; mark = mark; fact = fact }) (sym c.mark_from-mark.ensures) (sym c.in_ok-copy.ensures)) (taken_is_kept c.args.now c.args.sender c.args.fact.now calls goes))
