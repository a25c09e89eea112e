use Rattle.std.proofs.Common.{◌≡◌, ◌&&◌, None, Some, ap, sym, ◌∙◌, rules}
use Rattle.std.specs.Map.{lookup}
use Rattle.std.specs.Ordering.{eq_by_cmp}
use Rattle.mesh_model.specs.contracts.service.FactKeyOrd.TheImpl.Laws.{matches_eq-law}
use Rattle.mesh_model.specs.Services.Facts.{fact_order, kept_fact, outweighs, stays_kept}
use Rattle.alfred_core.proofs.FactLemmas.{looked_up}
use Rattle.alfred_core.proofs.facts.Facts.stays.Goals as goal

pub returns-then-is_live : goal.returns-then-is_live
returns-then-is_live c =
    λ me calls stands.
    let found : lookup (eq_by_cmp fact_order c.args.key) c.args.self.now.kept ≡ Some c.in-Some.kept.now = sym (looked_up _ matches_eq-law c.args.key c.args.self.now.kept) ∙ search rules in
    let is : kept_fact calls c.args.key.source c.args.key.type_no ≡ Some c.in-Some.kept.now = sym (stands.left c.args.key) ∙ found in
    c.outweighs.ensures ∙ sym (ap (λ b. b && outweighs c.in-Some.kept.now.mark c.args.mark) (sym c.is_live.ensures ∙ c.if-is_live.true)) ∙ sym (ap (stays_kept c.args.now c.args.mark) is)

pub returns-else-is_live : goal.returns-else-is_live
returns-else-is_live c =
    λ me calls stands.
    let found : lookup (eq_by_cmp fact_order c.args.key) c.args.self.now.kept ≡ Some c.in-Some.kept.now = sym (looked_up _ matches_eq-law c.args.key c.args.self.now.kept) ∙ search rules in
    let is : kept_fact calls c.args.key.source c.args.key.type_no ≡ Some c.in-Some.kept.now = sym (stands.left c.args.key) ∙ found in
    c.if-is_live.false ∙ sym (ap (λ b. b && outweighs c.in-Some.kept.now.mark c.args.mark) (sym c.is_live.ensures ∙ c.if-is_live.false)) ∙ sym (ap (stays_kept c.args.now c.args.mark) is)

pub returns-in-None : goal.returns-in-None
returns-in-None c =
    λ me calls stands.
    let absent : lookup (eq_by_cmp fact_order c.args.key) c.args.self.now.kept ≡ None = sym (looked_up _ matches_eq-law c.args.key c.args.self.now.kept) ∙ search rules in
    sym (ap (stays_kept c.args.now c.args.mark) (sym (stands.left c.args.key) ∙ absent))
