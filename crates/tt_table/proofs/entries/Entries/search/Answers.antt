use Rattle.std.proofs.Common.{rules}
use Rattle.std.proofs.lemmas.List.Sorted.{answers_always}
use Rattle.mesh_laws.proofs.PresentLemmas.{key_total, key_exact}
use Rattle.tt_table.specs.Entries.{entry_key}
use Rattle.tt_table.proofs.OrderedLists.{searched}
use Rattle.tt_table.proofs.entries.Entries.search.Goals as goal

pub returns : goal.returns
returns c =
    let facts = c.binary_search_by_key.ensures in
    let found = rw c.deref.ensures.value at (facts.position (λ entry. entry.key) (answers_always _ _ _ (λ f a r g called. search rules))) in
    let place = searched key_total key_exact entry_key c.args.key c.self.inside.entries.items c.binary_search_by_key.result c.self.invariant (rw c.deref.ensures.value at facts.bound) found in
    rw (← c.self.view_is) (record { there = place.0; gap = place.1 })
