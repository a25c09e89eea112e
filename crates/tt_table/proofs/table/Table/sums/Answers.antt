use Rattle.tt_table.proofs.NamedSums.{are_sums_of}
use Rattle.tt_table.proofs.table.Table.sums.Goals as goal

pub returns : goal.returns
returns c = rw (← c.self.view_is) (are_sums_of c.self.inside.sums.rows c.self.inside.entries.entries c.tell_order.ensures.order c.self.invariant.0 c.self.invariant.1)
