use Rattle.std.proofs.Common.{◌≡◌, ◌∙◌, None, Some, ap, option_and_then, sym, rules}
use Rattle.std.specs.Map.{lookup}
use Rattle.mesh_model.specs.Routes.Addresses.{same_mac}
use Rattle.mesh_iv.specs.Origs.{orig_at}
use Rattle.mesh_iv.proofs.RowLemmas.{live_row}
use Rattle.mesh_iv.proofs.iv.Iv.orig_near.Goals as goal

pub returns-in_err-row_near : goal.returns-in_err-row_near
returns-in_err-row_near c =
    λ me log stands.
    let none : lookup (same_mac c.args.orig) c.self.inside.origs.entries ≡ None = sym c.row_near.ensures ∙ search rules in
    c.from_residual.ensures ∙ sym (ap (option_and_then (orig_at c.args.now)) none)
    ∙ live_row me c.args.self.now log c.self.inside.origs.entries stands (ap (λ t. t.lives) c.self.view_is) (ap (λ t. t.bests) c.self.view_is) c.args.now c.args.orig

pub returns : goal.returns
returns c =
    λ me log stands.
    let row : lookup (same_mac c.args.orig) c.self.inside.origs.entries ≡ Some c.in_ok-row_near.field-0 = sym c.row_near.ensures ∙ search rules in
    c.at.ensures ∙ sym (ap (option_and_then (orig_at c.args.now)) row)
    ∙ live_row me c.args.self.now log c.self.inside.origs.entries stands (ap (λ t. t.lives) c.self.view_is) (ap (λ t. t.bests) c.self.view_is) c.args.now c.args.orig
