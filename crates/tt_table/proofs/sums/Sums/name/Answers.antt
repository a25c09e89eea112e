use Rattle.std.proofs.lemmas.Cmp.{nat_cmp_total}
use Rattle.std.proofs.lemmas.Map.Lookups.{exact_unsigned}
use Rattle.tt_table.specs.Sums.{row_key}
use Rattle.tt_table.proofs.OrderedLists.{sorted_put, some_item}
use Rattle.tt_table.proofs.TotalsLemmas.{is_named, names_kept, no_row, totals_kept}
use Rattle.tt_table.proofs.sums.Sums.name.Goals as goal

pub invariant_of-self : goal.invariant_of-self
invariant_of-self c =
    let gap = rw (← c.self.view_is) at c.in-Err.ensures.gap in
    rw (c.in_ok-insert.ensures.items, c.new.ensures) (sorted_put nat_cmp_total exact_unsigned row_key (no_row c.args.vid) c.self.inside.rows.items c.in-Err.place gap c.self.invariant)

pub returns-in_ok-insert-clause-ok : goal.returns-in_ok-insert-clause-ok
returns-in_ok-insert-clause-ok c =
    let gap = rw (← c.self.view_is) at c.in-Err.ensures.gap in
    rw (c.in_ok-insert.ensures.items, c.new.ensures) (is_named c.args.vid c.self.inside.rows.items c.in-Err.place gap)

pub returns-in_ok-insert-clause-names : goal.returns-in_ok-insert-clause-names
returns-in_ok-insert-clause-names c =
    let gap = rw (← c.self.view_is) at c.in-Err.ensures.gap in
    rw (← c.self.view_is) (rw (c.in_ok-insert.ensures.items, c.new.ensures) (names_kept c.args.vid c.self.inside.rows.items c.in-Err.place gap))

pub returns-in_ok-insert-clause-totals : goal.returns-in_ok-insert-clause-totals
returns-in_ok-insert-clause-totals c =
    let gap = rw (← c.self.view_is) at c.in-Err.ensures.gap in
    rw (← c.self.view_is) (rw (c.in_ok-insert.ensures.items, c.new.ensures) (totals_kept c.args.vid c.self.inside.rows.items c.in-Err.place gap))

pub returns-in_default-clause-ok : goal.returns-in_default-clause-ok
returns-in_default-clause-ok c = some_item nat_cmp_total exact_unsigned row_key c.args.vid.0 c.args.self.now.rows c.in_default.field-0 c.in_default.ensures.there
