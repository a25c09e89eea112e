use Rattle.std.proofs.Common.{rules}
use Rattle.std.proofs.lemmas.Cmp.{nat_cmp_total}
use Rattle.std.proofs.lemmas.List.Elements.{filter_from_retain}
use Rattle.std.proofs.lemmas.Map.Lookups.{exact_unsigned}
use Rattle.tt_table.specs.Sums.{row_key}
use Rattle.tt_table.proofs.OrderedLists.{sorted_kept}
use Rattle.tt_table.proofs.TableSums.{no_entries}
use Rattle.tt_table.proofs.TotalsLemmas.{has_entries, have_entries, totals_left}
use Rattle.tt_table.proofs.sums.Sums.drop_empty.Goals as goal

pub invariant_of-self : goal.invariant_of-self
invariant_of-self c =
    let rows = filter_from_retain _ has_entries (λ p x b q called. search rules) _ c.self.inside.rows.items c.retain.new.self.items c.retain.ensures.filtered in
    rw rows (sorted_kept nat_cmp_total exact_unsigned row_key has_entries c.self.inside.rows.items c.self.invariant)

pub returns-clause-totals : goal.returns-clause-totals
returns-clause-totals c =
    let rows = filter_from_retain _ has_entries (λ p x b q called. search rules) _ c.self.inside.rows.items c.retain.new.self.items c.retain.ensures.filtered in
    rw (← c.self.view_is) (rw rows (λ table totals. totals_left c.self.inside.rows.items c.self.invariant table (no_entries table) totals))

pub returns-clause-entries : goal.returns-clause-entries
returns-clause-entries c =
    let rows = filter_from_retain _ has_entries (λ p x b q called. search rules) _ c.self.inside.rows.items c.retain.new.self.items c.retain.ensures.filtered in
    rw rows (have_entries c.self.inside.rows.items c.self.invariant)
