use Rattle.std.proofs.Common.{◌≡◌, None, Some, option_and_then, rules, ap, ◌∙◌, sym}
use Rattle.std.specs.Map.{lookup}
use Rattle.std.specs.Ordering.{eq_by_cmp}
use Rattle.mesh_base.specs.KeyOrder.{key_order}
use Rattle.mesh_base.specs.contracts.client.KeyOrd.TheImpl.Laws.{matches_eq-law}
use Rattle.mesh_bla.specs.Claims.{kept_row}
use Rattle.mesh_bla.proofs.ClaimLemmas.{looked_up, row_kept}
use Rattle.mesh_bla.proofs.claims.Claims.standing.Goals as goal

pub returns : goal.returns
returns c =
    λ me calls stands.
    let kept = c.args.self.now.kept in
    let found : lookup (eq_by_cmp key_order c.args.key) kept ≡ Some c.in_ok-get.field-0.now = sym (looked_up _ matches_eq-law c.args.key kept) ∙ search rules in
    c.row.ensures ∙ sym (ap (option_and_then (kept_row c.args.now c.args.key)) found) ∙ row_kept c.args.self.now me calls c.args.now stands c.args.key

pub returns-in_err-get : goal.returns-in_err-get
returns-in_err-get c =
    λ me calls stands.
    let kept = c.args.self.now.kept in
    let absent : lookup (eq_by_cmp key_order c.args.key) kept ≡ None = sym (looked_up _ matches_eq-law c.args.key kept) ∙ search rules in
    c.from_residual.ensures ∙ sym (ap (option_and_then (kept_row c.args.now c.args.key)) absent) ∙ row_kept c.args.self.now me calls c.args.now stands c.args.key
