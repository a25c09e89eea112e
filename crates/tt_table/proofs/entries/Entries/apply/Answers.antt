use Rattle.std.proofs.Common.{sym}
use Rattle.std.proofs.lemmas.Result.{err_from_is_err_and}
use Rattle.tt_table.proofs.StrictLemmas.{half_failed, halves_done, halves_failed}
use Rattle.tt_table.proofs.entries.Entries.apply.Goals as goal

pub returns-in_err-change_all-clause-outcome : goal.returns-in_err-change_all-clause-outcome
returns-in_err-change_all-clause-outcome c =
    let error = err_from_is_err_and c.from_residual.result c.from_residual.ensures.1 in
    let outcome = c.in_err-change_all.ensures.outcome in
    rw (error.1, error.2) (half_failed c.args.changes.now c.args.self.now.entries c.change_all.new.self.entries c.in_err-change_all.field-0.0 outcome.0 outcome.1)

pub returns-then-is_err-clause-outcome : goal.returns-then-is_err-clause-outcome
returns-then-is_err-clause-outcome c =
    halves_failed c.args.changes.now c.args.self.now.entries c.change_all.new.self.entries c.change_all-added.new.self.entries c.undo_all.new.self.entries
    c.change_all-added.result c.in_ok-change_all.ensures.outcome c.change_all-added.ensures.outcome (sym c.if-is_err.ensures.value) (c.undo_all.ensures.undone c.args.self.now.entries c.change_all.ensures.ordered)

pub returns-else-is_err-clause-outcome : goal.returns-else-is_err-clause-outcome
returns-else-is_err-clause-outcome c =
    halves_done c.args.changes.now c.args.self.now.entries c.change_all.new.self.entries c.change_all-added.new.self.entries
    c.change_all-added.result c.in_ok-change_all.ensures.outcome c.change_all-added.ensures.outcome (sym c.if-is_err.ensures.value)
