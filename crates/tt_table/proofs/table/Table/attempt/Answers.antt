use Rattle.std.proofs.Common.{length, ap, arith}
use Rattle.tt_table.proofs.table.Table.attempt.Goals as goal

pub returns-clause-room : goal.returns-clause-room
returns-clause-room g c = rw (← c.self.view_is)
    (λ room.
    let same = ap length c.as_slice.ensures in
    let entries = c.tell_order.ensures.room in
    let rows = c.tell_order-2.ensures.room in
    c.apply_all-outcome.ensures.room (omega (arith, same, room, entries, rows)) (omega (arith, same, room, entries, rows)))
