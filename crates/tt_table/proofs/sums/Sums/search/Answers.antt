use Rattle.std.proofs.Common.{rules}
use Rattle.std.proofs.lemmas.Cmp.{nat_cmp_total}
use Rattle.std.proofs.lemmas.List.Sorted.{answers_always}
use Rattle.std.proofs.lemmas.Map.Lookups.{exact_unsigned}
use Rattle.tt_table.specs.Sums.{row_key}
use Rattle.tt_table.proofs.OrderedLists.{searched}
use Rattle.tt_table.proofs.sums.Sums.search.Goals as goal

pub returns : goal.returns
returns c =
    let facts = c.binary_search_by_key.ensures in
    let found = rw c.deref.ensures.value at (facts.position (λ row. row.vid) (answers_always _ _ _ (λ f a r g called. search rules))) in
    let place = searched nat_cmp_total exact_unsigned row_key c.args.vid.0 c.self.inside.rows.items c.binary_search_by_key.result c.self.invariant (rw c.deref.ensures.value at facts.bound) found in
    rw (← c.self.view_is) (record { there = place.0; gap = place.1 })
