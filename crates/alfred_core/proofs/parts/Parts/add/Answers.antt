use Rattle.std.proofs.Common.{◌≡◌, ◌∙◌, ◌∷◌, ◌++◌, [], ap₂, subst, sym, nat_eq, Some, None, rules, tests}
use Rattle.indexmap.specs.IndexMap.{get}
use Rattle.indexmap.proofs.CallerLemmas.{insert_entry-new}
use Rattle.mesh_model.specs.Services.Transactions.{part_at}
use Rattle.alfred_core.proofs.PartLemmas.{missing_still, more, none_kept, part_added}
use Rattle.alfred_core.proofs.parts.Parts.add.Goals as goal

pub invariant_of-self-then-eq : goal.invariant_of-self-then-eq
invariant_of-self-then-eq c =
    more c.self.inside.kept.entries c.insert.new.self.entries c.args.number c.in_ok-copies.copies c.self.inside.missing _ c.ranges.number.fits c.in_ok-insert.ensures.updates.0 c.self.invariant c.first_missing-self-inside.ensures

pub invariant_of-self-else-eq : goal.invariant_of-self-else-eq
invariant_of-self-else-eq c =
    let other : c.self.inside.missing ≡ Some c.args.number → ⊥ = search (rules, tests) in
    more c.self.inside.kept.entries c.insert.new.self.entries c.args.number c.in_ok-copies.copies c.self.inside.missing c.self.inside.missing c.ranges.number.fits c.in_ok-insert.ensures.updates.0 c.self.invariant
    (missing_still c.self.inside.kept.entries c.insert.new.self.entries c.args.number c.in_ok-copies.copies c.self.inside.missing c.in_ok-insert.ensures.updates.0 other c.self.invariant.without)

pub returns-then-eq-clause-ok : goal.returns-then-eq-clause-ok
returns-then-eq-clause-ok c =
    let none : get nat_eq c.self.inside.kept c.args.number ≡ None = none_kept c.self.inside.kept.entries c.args.number (subst (λ parts. part_at parts c.args.number ≡ None) (sym c.self.view_is) c.requires) in
    part_added c.self.inside.kept.entries c.insert.new.self.entries c.args.number c.in_ok-copies.copies (c.in_ok-insert.ensures.entries ∙ insert_entry-new nat_eq c.self.inside.kept c.args.number c.in_ok-copies.copies none)
    ∙ ap₂ (λ parts facts. parts ++ record { number = c.args.number; facts = facts } ∷ []) c.self.view_is c.in_ok-copies.ensures

pub returns-else-eq-clause-ok : goal.returns-else-eq-clause-ok
returns-else-eq-clause-ok c =
    let none : get nat_eq c.self.inside.kept c.args.number ≡ None = none_kept c.self.inside.kept.entries c.args.number (subst (λ parts. part_at parts c.args.number ≡ None) (sym c.self.view_is) c.requires) in
    part_added c.self.inside.kept.entries c.insert.new.self.entries c.args.number c.in_ok-copies.copies (c.in_ok-insert.ensures.entries ∙ insert_entry-new nat_eq c.self.inside.kept c.args.number c.in_ok-copies.copies none)
    ∙ ap₂ (λ parts facts. parts ++ record { number = c.args.number; facts = facts } ∷ []) c.self.view_is c.in_ok-copies.ensures
