use Rattle.std.proofs.Common.{◌∙◌, subst, sym, ap}
use Rattle.mesh_model.specs.Tables.Sums.{sums_of}
use Rattle.tt_local.specs.Locals.{LocalsView, LocalsStand}
use Rattle.tt_local.proofs.JournalLemmas.{byte_of_last}
use Rattle.tt_local.proofs.locals.Locals.announcement.Goals as goal

pub returns-clause-announced : goal.returns-clause-announced
returns-clause-announced c = λ mentions history since stands.
    let was = subst (λ (v : LocalsView). LocalsStand v mentions history since) (sym c.self.view_is) stands in
    record {
      byte = c.byte-byte.ensures ∙ byte_of_last c.self.inside.journal history was.journal;
      sums = c.in_ok-sums.ensures.named ∙ c.sums.ensures ∙ ap sums_of (c.table.ensures ∙ was.journal.table);
      changes = c.in_ok-changes.ensures history was.journal;
    }
