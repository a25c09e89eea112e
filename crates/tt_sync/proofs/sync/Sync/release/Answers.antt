use Rattle.std.proofs.Common.{◌∙◌, ap, filter, not, rules, subst, sym, tests}
use Rattle.std.proofs.lemmas.Map.Made.{filter_same_pairs}
use Rattle.mesh_model.specs.Marks.RoamingMarks.{is_ended}
use Rattle.tt_sync.specs.Sync.{StandsFor}
use Rattle.tt_sync.proofs.sync.Sync.release.Goals as goal

pub returns : goal.returns
returns c =
    λ made stands.
    let st = subst (λ k. StandsFor k made) (sym c.self.view_is) stands in
    record {
      marks = filter_same_pairs _ (λ e. not (is_ended c.args.target c.args.byte e.1)) _ (λ k v b w f called. search (rules, tests)) _ _ c.retain.ensures.filtered
          ∙ ap (filter (λ e. not (is_ended c.args.target c.args.byte e.1))) st.marks;
      asked = st.asked;
      sent = st.sent;
    }
