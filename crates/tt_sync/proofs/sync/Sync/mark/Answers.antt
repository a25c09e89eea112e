use Rattle.std.proofs.Common.{◌≡◌, ◌∙◌, ap, subst, sym}
use Rattle.std.specs.BTreeMap.{insert_entry}
use Rattle.mesh_base.specs.KeyOrder.{key_order}
use Rattle.mesh_model.specs.Marks.RoamingMarks.{mark_to, marks_by}
use Rattle.mesh_laws.proofs.AscendingKeys.{Ascend, inserted, sorted_from}
use Rattle.mesh_laws.proofs.MarkLemmas.{ascends}
use Rattle.mesh_laws.proofs.PresentLemmas.{key_exact, key_total}
use Rattle.tt_sync.specs.Sync.{StandsFor}
use Rattle.tt_sync.proofs.SyncLemmas.{key_test, same_fields}
use Rattle.tt_sync.proofs.sync.Sync.mark.Goals as goal

pub returns-clause-ok : goal.returns-clause-ok
returns-clause-ok c =
    λ made stands.
    let st = subst (λ k. StandsFor k made) (sym c.self.view_is) stands in
    let before : c.self.inside.marks.entries ≡ marks_by made = st.marks in
    let ordered = subst (Ascend key_total key_exact) (sym before) (ascends made) in
    record {
      marks = inserted key_total key_exact same_fields key_test c.self.inside.marks.entries c.insert_sorted.new.self.entries c.args.key _ ordered
          (c.in_ok-insert_sorted.ensures.sorted (sorted_from key_total key_exact _ ordered)) c.in_ok-insert_sorted.ensures.unique c.in_ok-insert_sorted.ensures.updates.0
          ∙ ap (λ es. insert_entry key_order es c.args.key (mark_to c.args.now c.args.target c.args.told)) before;
      asked = st.asked;
      sent = st.sent;
    }
