use Rattle.std.proofs.Common.{ap, subst, ◌∙◌, ◌≡◌, ◌++◌}
use Rattle.std.specs.Map.{lookup}
use Rattle.mesh_model.specs.Routes.Addresses.{same_mac}
use Rattle.mesh_model.specs.Tables.Gathered.{with_table_part}
use Rattle.mesh_model.specs.Tables.Judging.{InPart}
use Rattle.mesh_model.specs.Tables.Known.{gathered_after}
use Rattle.tt_global.specs.Kept.{GathersBy, gathered_in, stamp, told_in}
use Rattle.tt_global.specs.Lent.{lent}
use Rattle.tt_global.proofs.CommitLemmas.{keeps_commits, last_agrees, last_taken}
use Rattle.tt_global.proofs.StandLemmas.{answered_behind, parts_become}
use Rattle.tt_global.proofs.globals.Globals.take_part.Goals as goal

pub returns-clause-ok : goal.returns-clause-ok
returns-clause-ok g c =
    λ calls stands.
    let kept : lent c.get-kept.result ≡ lookup (same_mac c.args.orig) c.args.self.now = c.get-kept.ensures.value ∙ ap (lookup (same_mac c.args.orig)) c.self.view_is in
    let st = stamp c.args.byte c.args.sums.now in
    let carried = InPart c.args.number c.args.count c.args.records.now in
    let by = subst (λ k. GathersBy c.in_ok-judged.parts (lent c.get-kept.result) (with_table_part c.args.number c.args.count c.args.records.now (gathered_in k))
    (gathered_after (told_in (lent c.get-kept.result)) st carried (gathered_in (lent c.get-kept.result)))) kept c.in_ok-judged.ensures.parts in
    let parts_are = parts_become calls c.args.orig st carried c.args.self.now stands c.in_ok-judged.parts (with_table_part c.args.number c.args.count c.args.records.now (gathered_in (lookup (same_mac c.args.orig) c.args.self.now)))
    (lent c.get-kept.result) kept by c.gather.new.self c.in_ok-gather.ensures.ok in
    answered_behind calls c.args.orig st carried c.args.self.now stands c.gather.new.self parts_are c.in_ok-judged.judged (lent c.get-kept.result) kept c.in_ok-judged.ensures.row c.hold.new.self c.hold.ensures

pub returns-clause-commits : goal.returns-clause-commits
returns-clause-commits g c =
    λ calls made stands came. keeps_commits made c.args.orig c.hold.new.self _ (returns-clause-ok g c calls stands) came

pub returns-clause-last : goal.returns-clause-last
returns-clause-last g c =
    λ before came wanted parts stands are last records_are.
    let kept : lent c.get-kept.result ≡ lookup (same_mac c.args.orig) c.args.self.now = c.get-kept.ensures.value ∙ ap (lookup (same_mac c.args.orig)) c.self.view_is in
    last_taken c.args.orig before came wanted (stamp c.args.byte c.args.sums.now) c.args.count c.args.number parts are last c.args.records.now records_are c.args.self.now stands c.in_ok-judged.judged (lent c.get-kept.result) kept c.in_ok-judged.ensures.row

pub returns-clause-agreed : goal.returns-clause-agreed
returns-clause-agreed g c =
    λ before came wanted parts stands are last records_are.
    last_agrees c.args.orig before came wanted (stamp c.args.byte c.args.sums.now) c.args.count c.args.number parts are last c.args.records.now records_are c.hold.new.self (returns-clause-ok g c (came ++ before) stands)
