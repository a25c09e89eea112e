use Rattle.std.proofs.Common.{◌∙◌, is_none, ap, sym, subst}
use Rattle.tt_local.specs.Journal.{HasTable}
use Rattle.tt_local.proofs.AliasLemmas.{none_from_some, tables_tell}
use Rattle.tt_local.proofs.journal.Journal.are_aliases.Goals as goal

pub returns : goal.returns
returns c = λ history stands byte table.
    let none = none_from_some c.first_difference.result (sym c.is_some.ensures ∙ c.if-is_some.false) in
    tables_tell history.commits c.args.number c.args.earlier _ _ c.args.table.now c.as_slice.result.now c.is_same.result byte
    (c.sums_at-sums.ensures history stands) (c.sums_at.ensures history stands) (ap is_none (sym c.first_difference.ensures) ∙ none) table
    (subst (λ t. HasTable c.args.earlier t history.commits) (sym c.as_slice.ensures.value) (c.in_ok-other.ensures history stands)) c.is_same.ensures
