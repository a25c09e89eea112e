use Rattle.std.proofs.Common.{◌≡◌, ◌∙◌, ◌∷◌, Some, ap, rules, subst, sym, true}
use Rattle.std.specs.Map.{lookup, set_value}
use Rattle.std.proofs.lemmas.Map.Steps.{set_value_same}
use Rattle.std.proofs.lemmas.Result.{err_from_is_err_and}
use Rattle.alfred_core.specs.Kept.{call_of, is_kept_open, is_open}
use Rattle.alfred_core.specs.Transactions.{TransactionsStand, same_transaction}
use Rattle.alfred_core.proofs.TransactionLemmas.{goes_on_answered, goes_on_open, goes_on_whole, left_then}
use Rattle.alfred_core.proofs.transactions.Transactions.go_on.Goals as goal
use Rattle.alfred_core.proofs.transactions.Transactions.go_on.Goals.{in-Whole+in-Some-1, in-Whole+in-None-1, in_default}

pub returns-in_err-told-clause-err : goal.returns-in_err-told-clause-err
returns-in_err-told-clause-err c =
    let old = c.args.self.now in
    let found : lookup (same_transaction c.args.key) old ≡ Some c.unwrap-txn.result.now = search rules in
    let written : (c.get_mut.follows.lender c.take.new.self).entries ≡ set_value (same_transaction c.args.key) old c.take.new.self = search rules in
    let error = err_from_is_err_and c.from_residual.result c.from_residual.ensures.1 in
    rw error.1 (written ∙ ap (set_value (same_transaction c.args.key) old) c.in_err-told.ensures.err ∙ set_value_same (same_transaction c.args.key) old c.unwrap-txn.result.now found)

pub returns-clause-answered : goal.returns-clause-answered
returns-clause-answered c =
    let old = c.args.self.now in
    let txn = c.unwrap-txn.result.now in
    let found : lookup (same_transaction c.args.key) old ≡ Some txn = search rules in
    let fresh : is_open c.args.now txn ≡ true = subst (λ kept. is_kept_open c.args.now kept ≡ true) found c.requires in
    λ calls stands in_time.
    goes_on_answered old calls stands c.args.now in_time c.args.key c.args.brought txn c.take.new.self found fresh c.in_ok-told.ensures.ok c.in_ok-told.told c.in_ok-told.ensures.answered

pub returns-clause-ok : goal.returns-clause-ok
returns-clause-ok c =
    let old = c.args.self.now in
    let txn = c.unwrap-txn.result.now in
    let found : lookup (same_transaction c.args.key) old ≡ Some txn = search rules in
    let fresh : is_open c.args.now txn ≡ true = subst (λ kept. is_kept_open c.args.now kept ≡ true) found c.requires in
    let written : (c.get_mut.follows.lender c.take.new.self).entries ≡ set_value (same_transaction c.args.key) old c.take.new.self = search rules in
    λ calls stands in_time.
    let after = c.take.new.self in
    let left = left_then old calls stands c.args.now in_time c.args.key c.args.brought txn after found fresh c.in_ok-told.ensures.ok (c.get_mut.follows.lender after).entries c.drop_aged.new.rows.entries written c.drop_aged.ensures.kept in
    elim c.match-told.branch [
      | in-Whole+in-Some-1 w ↦
          subst (λ rows. TransactionsStand rows (call_of c.args.now c.args.key c.args.brought ∷ calls)) (sym w.self-is)
          (goes_on_whole old calls stands c.args.now in_time c.args.key c.args.brought txn after found fresh c.in_ok-told.ensures.ok c.in_ok-told.told w.in-Whole.field-0 c.in_ok-told.ensures.answered w.in-Whole.is
          c.drop_aged.new.rows.entries w.shift_remove.new.self.entries left w.shift_remove.ensures.entries w.shift_remove.ensures.unique)
      | in-Whole+in-None-1 w ↦
          subst (λ rows. TransactionsStand rows (call_of c.args.now c.args.key c.args.brought ∷ calls)) (sym w.self-is)
          (goes_on_whole old calls stands c.args.now in_time c.args.key c.args.brought txn after found fresh c.in_ok-told.ensures.ok c.in_ok-told.told w.in-Whole.field-0 c.in_ok-told.ensures.answered w.in-Whole.is
          c.drop_aged.new.rows.entries w.shift_remove.new.self.entries left w.shift_remove.ensures.entries w.shift_remove.ensures.unique)
      | in_default w ↦
          goes_on_open old calls stands c.args.now in_time c.args.key c.args.brought txn after found fresh c.in_ok-told.ensures.ok c.in_ok-told.told w.in_default.field-0 w.in_default.field-1 c.in_ok-told.ensures.answered w.in_default.is
          c.match-told.self (w.self-is ∙ left)
    ]
