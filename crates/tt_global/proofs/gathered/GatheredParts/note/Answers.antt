use Rattle.std.proofs.Common.{rules, tests, ◌≡◌, ◌∙◌, nat_eq, subst, None}
use Rattle.indexmap.specs.IndexMap.{get}
use Rattle.indexmap.proofs.CallerLemmas.{insert_entry-new}
use Rattle.mesh_model.specs.Tables.Gathered.{Gathered, with_table_part}
use Rattle.tt_global.proofs.PartLemmas.{noted}
use Rattle.tt_global.proofs.gathered.GatheredParts.note.Goals as goal

pub returns-clause-ok : goal.returns-clause-ok
returns-clause-ok c =
    let same : c.self.inside.count ≡ c.args.count = search (rules, tests) in
    let none : get nat_eq c.self.inside.parts c.args.number ≡ None = search (rules, tests) in
    subst (λ (g : Gathered). ◌≡◌ {A = Gathered} (record { count = c.self.inside.count; got = c.insert-2.new.self.entries }) (with_table_part c.args.number c.args.count c.args.records.now g)) c.self.view_is
    (noted c.args.number c.args.count c.args.records.now c.in_ok-copy-2.copy (record { count = c.self.inside.count; got = c.self.inside.parts.entries }) c.insert-2.new.self.entries same none
    (c.in_ok-insert-2.ensures.entries ∙ insert_entry-new nat_eq c.self.inside.parts c.args.number c.in_ok-copy-2.copy none) c.in_ok-copy-2.ensures)
