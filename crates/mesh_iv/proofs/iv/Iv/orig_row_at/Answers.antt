use Rattle.std.proofs.Common.{◌∙◌, ap, option_and_then, slice_get, sym}
use Rattle.mesh_iv.specs.Answers.{row_of_orig}
use Rattle.mesh_iv.proofs.OrigLemmas.{key_at}
use Rattle.mesh_iv.proofs.TableLemmas.{keys_are}
use Rattle.mesh_iv.proofs.iv.Iv.orig_row_at.Goals as goal

pub returns-in_err-orig : goal.returns-in_err-orig
returns-in_err-orig c =
    λ me log stands.
    let keys = keys_are me c.args.self.now log c.self.inside.origs.entries stands (ap (λ t. t.lives) c.self.view_is) in
    c.from_residual.ensures ∙ sym (ap (option_and_then (row_of_orig me log c.args.now)) (ap (λ ks. slice_get ks c.args.place) (sym keys) ∙ key_at _ c.args.place _ (sym c.in_err-orig.ensures.entry)))

pub returns : goal.returns
returns c =
    λ me log stands.
    let keys = keys_are me c.args.self.now log c.self.inside.origs.entries stands (ap (λ t. t.lives) c.self.view_is) in
    c.orig_row_near.ensures me log stands
    ∙ sym (ap (option_and_then (row_of_orig me log c.args.now)) (ap (λ ks. slice_get ks c.args.place) (sym keys) ∙ key_at _ c.args.place _ (sym c.in_ok-orig.ensures.entry)))
