use Rattle.std.proofs.Common.{◌∙◌, ap, subst, sym}
use Rattle.std.specs.Map.{remove_entry}
use Rattle.std.proofs.Math.Path.{fun_ext}
use Rattle.mesh_model.specs.Clients.Present.{same_key}
use Rattle.tt_sync.specs.Sync.{StandsFor}
use Rattle.tt_sync.proofs.SyncLemmas.{key_test}
use Rattle.tt_sync.proofs.sync.Sync.unmark.Goals as goal

pub returns : goal.returns
returns c =
    λ made stands.
    let st = subst (λ k. StandsFor k made) (sym c.self.view_is) stands in
    record {
      marks = c.shift_remove.ensures.entries
          ∙ ap (λ test. remove_entry test c.self.inside.marks.entries) (fun_ext (λ k. key_test c.args.key k))
          ∙ ap (remove_entry (same_key c.args.key)) st.marks;
      asked = st.asked;
      sent = st.sent;
    }
