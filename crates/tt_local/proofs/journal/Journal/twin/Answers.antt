use Rattle.std.proofs.Common.{◌≡◌, ◌∙◌, ap, length, refl, sym, subst, true, rules}
use Rattle.tt_local.specs.Journal.{HasTable, JournalView}
use Rattle.tt_local.proofs.AliasLemmas.{twin_of_last}
use Rattle.tt_local.proofs.NumberedLemmas.{last_table_at}
use Rattle.tt_local.proofs.journal.Journal.twin.Goals as goal

pub returns : goal.returns
returns c = λ history stands.
    let last = length c.args.self.now.past in
    let mine : c.as_slice.result.now ≡ c.args.self.now.table = c.as_slice.ensures ∙ ap (λ (v : JournalView). v.table) c.self.view_is in
    let its = subst (λ t. HasTable c.in-Some.before t history.commits) (sym c.as_slice-2.ensures.value) (c.in_ok-table.ensures history stands) in
    let alike : c.is_same.result ≡ true = search rules in
    twin_of_last history.commits last c.in-Some.before c.twin_at.result c.args.self.now.table c.as_slice-2.result.now
    (last_table_at c.args.self.now history stands last refl) its (sym mine ∙ c.is_same.ensures.0 alike) (c.twin_at.ensures history stands)
