use Rattle.std.proofs.Common.{◌≡◌, ◌∙◌, min, length, ap, sym, subst, arith}
use Rattle.mesh_model.specs.Commits.Aliases.{alias_of}
use Rattle.tt_local.specs.Locals.{LocalsView, LocalsStand}
use Rattle.tt_local.proofs.AliasLemmas.{alias_within, newest_alias}
use Rattle.tt_local.proofs.locals.Locals.alias_of.Goals as goal

pub alias_of-requires : goal.alias_of-requires
alias_of-requires c =
    let least = c.min-number.ensures in
    let last = c.last.ensures.past in
    let past : length c.self.inside.journal.past ≡ length c.args.self.now.journal.past = ap (λ (v : LocalsView). length v.journal.past) c.self.view_is in
    record { made = grind (arith, least, last, past) }

pub returns-clause-alias : goal.returns-clause-alias
returns-clause-alias c = λ mentions history since stands.
    let was = subst (λ (v : LocalsView). LocalsStand v mentions history since) (sym c.self.view_is) stands in
    let number : c.min-number.result ≡ min c.args.number (length c.args.self.now.journal.past) = c.min-number.ensures ∙ ap (min c.args.number) c.last.ensures.past in
    c.in_ok-alias.ensures history was.journal ∙ ap (λ n. alias_of n history.commits) number
    ∙ alias_within c.args.number (length c.args.self.now.journal.past) history.commits stands.journal.count

pub returns-clause-newest : goal.returns-clause-newest
returns-clause-newest c = λ mentions history since stands newest.
    returns-clause-alias c mentions history since stands ∙ newest_alias c.args.number history.commits newest
