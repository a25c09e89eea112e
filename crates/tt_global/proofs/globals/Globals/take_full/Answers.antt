use Rattle.std.proofs.Common.{ap, refl, ◌∙◌, ◌≡◌}
use Rattle.std.specs.Map.{lookup}
use Rattle.mesh_model.specs.Routes.Addresses.{same_mac}
use Rattle.mesh_model.specs.Tables.Judging.{InFull}
use Rattle.tt_global.specs.Kept.{stamp}
use Rattle.tt_global.specs.Lent.{lent}
use Rattle.tt_global.proofs.CommitLemmas.{keeps_commits, whole_agrees, whole_taken}
use Rattle.tt_global.proofs.StandLemmas.{answered_stands, taken_is}
use Rattle.tt_global.proofs.globals.Globals.take_full.Goals as goal

pub returns-clause-ok : goal.returns-clause-ok
returns-clause-ok g c =
    λ calls stands.
    let kept : lent c.get-kept.result ≡ lookup (same_mac c.args.orig) c.args.self.now = c.get-kept.ensures.value ∙ ap (lookup (same_mac c.args.orig)) c.self.view_is in
    answered_stands calls c.args.orig (stamp c.args.byte c.args.sums.now) (InFull c.args.records.now) c.args.self.now stands refl _ _ kept c.in_ok-outcome.ensures.row c.hold.new.self c.hold.ensures

pub returns-clause-taken : goal.returns-clause-taken
returns-clause-taken g c =
    λ calls stands.
    let kept : lent c.get-kept.result ≡ lookup (same_mac c.args.orig) c.args.self.now = c.get-kept.ensures.value ∙ ap (lookup (same_mac c.args.orig)) c.self.view_is in
    taken_is calls c.args.orig (stamp c.args.byte c.args.sums.now) (InFull c.args.records.now) c.args.self.now stands _ _ kept c.in_ok-outcome.ensures.row

pub returns-clause-commits : goal.returns-clause-commits
returns-clause-commits g c =
    λ calls made stands came. keeps_commits made c.args.orig c.hold.new.self _ (returns-clause-ok g c calls stands) came

pub returns-clause-whole : goal.returns-clause-whole
returns-clause-whole g c =
    λ calls stands whole.
    let kept : lent c.get-kept.result ≡ lookup (same_mac c.args.orig) c.args.self.now = c.get-kept.ensures.value ∙ ap (lookup (same_mac c.args.orig)) c.self.view_is in
    whole_taken calls c.args.orig (stamp c.args.byte c.args.sums.now) c.args.records.now c.args.self.now stands _ _ kept c.in_ok-outcome.ensures.row whole

pub returns-clause-agreed : goal.returns-clause-agreed
returns-clause-agreed g c =
    λ calls stands whole. whole_agrees calls c.args.orig (stamp c.args.byte c.args.sums.now) c.args.records.now c.hold.new.self (returns-clause-ok g c calls stands) whole
