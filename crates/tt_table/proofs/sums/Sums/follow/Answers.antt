use Rattle.std.proofs.Common.{◌∙◌, ap, arith}
use Rattle.std.proofs.lemmas.Cmp.{nat_cmp_total}
use Rattle.std.proofs.lemmas.Map.Lookups.{exact_unsigned}
use Rattle.tt_table.specs.Sums.{entries_of, row_key}
use Rattle.tt_table.proofs.OrderedLists.{none_in_gap, sorted_set}
use Rattle.tt_table.proofs.TableSums.{none_followed, totals_followed}
use Rattle.tt_table.proofs.TotalsLemmas.{few_followed, followed, found_row, names_followed}
use Rattle.tt_table.proofs.sums.Sums.follow.Goals as goal

pub follow-requires : goal.follow-requires
follow-requires g c =
    let there = rw (← c.self.view_is) at c.in-Ok.ensures.there in
    let few = rw (← c.self.view_is) at (c.requires.few c.args.change.now.entry.key.vid) in
    let row = ap entries_of (found_row c.args.change.now.entry.key.vid c.index_mut.result.now c.self.inside.rows.items c.in-Ok.place there c.index_mut.ensures.value) in
    record { few = λ e. omega (arith, few, row) }

pub invariant_of-self : goal.invariant_of-self
invariant_of-self g c =
    let there = rw (← c.self.view_is) at c.in-Ok.ensures.there in
    sorted_set nat_cmp_total exact_unsigned row_key c.args.change.now.entry.key.vid.0 c.follow.new.self c.self.inside.rows.items c.in-Ok.place there
    (ap row_key c.follow.ensures ∙ ap row_key c.index_mut.ensures.value ∙ there.same c.index_mut.result.now) c.self.invariant

pub returns-in-Ok-clause-totals : goal.returns-in-Ok-clause-totals
returns-in-Ok-clause-totals g c =
    let there = rw (← c.self.view_is) at c.in-Ok.ensures.there in
    let changed = followed c.args.change.now.entry.key.vid c.entry_sum-sum.result c.args.change.now.del c.index_mut.result.now c.follow.new.self c.self.inside.rows.items c.in-Ok.place there c.index_mut.ensures.value c.follow.ensures in
    rw (← c.self.view_is) (totals_followed c.args.change.now c.entry_sum-sum.result c.self.inside.rows.items _ c.entry_sum-sum.ensures.sum changed)

pub returns-in-Ok-clause-names : goal.returns-in-Ok-clause-names
returns-in-Ok-clause-names g c =
    let there = rw (← c.self.view_is) at c.in-Ok.ensures.there in
    let changed = followed c.args.change.now.entry.key.vid c.entry_sum-sum.result c.args.change.now.del c.index_mut.result.now c.follow.new.self c.self.inside.rows.items c.in-Ok.place there c.index_mut.ensures.value c.follow.ensures in
    rw (← c.self.view_is) (names_followed c.args.change.now.entry.key.vid _ c.self.inside.rows.items _ changed)

pub returns-in-Ok-clause-few : goal.returns-in-Ok-clause-few
returns-in-Ok-clause-few g c =
    let there = rw (← c.self.view_is) at c.in-Ok.ensures.there in
    let changed = followed c.args.change.now.entry.key.vid c.entry_sum-sum.result c.args.change.now.del c.index_mut.result.now c.follow.new.self c.self.inside.rows.items c.in-Ok.place there c.index_mut.ensures.value c.follow.ensures in
    rw (← c.self.view_is) (λ more few. few_followed more c.args.change.now.entry.key.vid c.entry_sum-sum.result c.args.change.now.del c.self.inside.rows.items _ changed few)

pub returns-in_default-clause-totals : goal.returns-in_default-clause-totals
returns-in_default-clause-totals g c =
    none_followed c.args.change.now c.args.self.now.rows (none_in_gap nat_cmp_total exact_unsigned row_key c.args.change.now.entry.key.vid.0 c.args.self.now.rows c.in_default.field-0 c.in_default.ensures.gap)
