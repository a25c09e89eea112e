use Rattle.std.proofs.Common.{◌∙◌, subst, sym}
use Rattle.tt_local.specs.Locals.{LocalsView, LocalsStand}
use Rattle.tt_local.proofs.JournalLemmas.{byte_of_last}
use Rattle.tt_local.proofs.locals.Locals.last_byte.Goals as goal

pub returns : goal.returns
returns c = λ mentions history since stands.
    let was = subst (λ (v : LocalsView). LocalsStand v mentions history since) (sym c.self.view_is) stands in
    c.byte.ensures ∙ byte_of_last c.self.inside.journal history was.journal
