use Rattle.std.proofs.Common.{◌≡◌, ◌∙◌, slice_get, option_map, Some, refl, ap, sym, subst}
use Rattle.std.proofs.lemmas.Option.{slice_get-map, slice_get_read}
use Rattle.tt_local.specs.Journal.{JournalStands, JournalView, PastCommit}
use Rattle.tt_local.specs.declared.journal.Past.{Past}
use Rattle.tt_local.proofs.NumberedLemmas.{kept_sums}
use Rattle.tt_local.proofs.journal.Journal.sums_at.Goals as goal
use Rattle.tt_table.specs.Sums.{named_sums}

pub returns-in-Some : goal.returns-in-Some
returns-in-Some c = λ history stands.
    let there = c.in-Some.ensures.lookup in
    let view : Past → PastCommit = λ p. record { changes = p.changes; sums = named_sums p.sums } in
    let got : slice_get c.self.inside.past.items c.args.number ≡ Some c.in-Some.past.now =
    subst (λ ps. slice_get ps c.args.number ≡ Some c.in-Some.past.now) c.deref.ensures.value
    (slice_get_read c.deref.result.now _ c.args.number c.in-Some.past.now refl there.3.0 there.1) in
    kept_sums _ history (subst (λ (v : JournalView). JournalStands v history) (sym c.self.view_is) stands) c.args.number (view c.in-Some.past.now)
    (slice_get-map view c.self.inside.past.items c.args.number ∙ ap (option_map view) got)
