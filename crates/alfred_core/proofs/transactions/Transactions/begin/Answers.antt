use Rattle.std.proofs.Common.{◌≡◌, ◌∙◌, ◌∷◌, ap, subst, sym}
use Rattle.mesh_model.specs.Services.Transactions.{opened_at, with_brought}
use Rattle.alfred_core.specs.Kept.{brought_in, call_of}
use Rattle.alfred_core.specs.Transactions.{TransactionsStand}
use Rattle.alfred_core.proofs.TransactionLemmas.{begins_answered, begins_open, begins_whole, left_before}
use Rattle.alfred_core.proofs.transactions.Transactions.begin.Goals as goal
use Rattle.alfred_core.proofs.transactions.Transactions.begin.Goals.{in-Open+in-Some-1, in-Open+in-None-1, in_default}

pub returns-clause-answered : goal.returns-clause-answered
returns-clause-answered c =
    let taken : c.take.new.self ≡ with_brought (brought_in c.args.brought) (opened_at c.args.now) = c.in_ok-told.ensures.ok ∙ ap (with_brought (brought_in c.args.brought)) c.new-txn.ensures in
    λ calls stands in_time.
    begins_answered c.args.self.now calls stands c.args.now in_time c.args.key c.args.brought c.take.new.self c.requires taken c.in_ok-told.told c.in_ok-told.ensures.answered

pub returns-clause-ok : goal.returns-clause-ok
returns-clause-ok c =
    let taken : c.take.new.self ≡ with_brought (brought_in c.args.brought) (opened_at c.args.now) = c.in_ok-told.ensures.ok ∙ ap (with_brought (brought_in c.args.brought)) c.new-txn.ensures in
    λ calls stands in_time.
    let after = c.take.new.self in
    let left = left_before c.args.self.now calls stands c.args.now in_time c.args.key c.args.brought after c.requires taken c.reserve.new.self.entries c.drop_aged.new.rows.entries (c.reserve.ensures.entries ∙ c.self.view_is) c.drop_aged.ensures.kept in
    elim c.match-told-2.branch [
      | in-Open+in-Some-1 w ↦
          let inserted = rw w.unwrap.ensures at w.insert.ensures in
          subst (λ rows. TransactionsStand rows (call_of c.args.now c.args.key c.args.brought ∷ calls)) (sym w.self-is)
          (begins_open c.args.self.now calls stands c.args.now in_time c.args.key c.args.brought after c.requires taken c.in_ok-told.told w.in-Open.have w.in-Open.want c.in_ok-told.ensures.answered w.in-Open.is
          c.drop_aged.new.rows w.insert.new.self.entries left inserted.entries inserted.updates.0 inserted.unique)
      | in-Open+in-None-1 w ↦
          let inserted = rw w.unwrap.ensures at w.insert.ensures in
          subst (λ rows. TransactionsStand rows (call_of c.args.now c.args.key c.args.brought ∷ calls)) (sym w.self-is)
          (begins_open c.args.self.now calls stands c.args.now in_time c.args.key c.args.brought after c.requires taken c.in_ok-told.told w.in-Open.have w.in-Open.want c.in_ok-told.ensures.answered w.in-Open.is
          c.drop_aged.new.rows w.insert.new.self.entries left inserted.entries inserted.updates.0 inserted.unique)
      | in_default w ↦
          begins_whole c.args.self.now calls stands c.args.now in_time c.args.key c.args.brought after c.requires taken c.in_ok-told.told w.in_default.field-0 c.in_ok-told.ensures.answered w.in_default.is
          c.match-told-2.self (w.self-is ∙ left)
    ]
