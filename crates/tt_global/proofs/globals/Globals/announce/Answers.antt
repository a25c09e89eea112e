use Rattle.std.proofs.Common.{rules, ap, subst, ◌∙◌, ◌≡◌, Some}
use Rattle.std.specs.Map.{lookup, set_value}
use Rattle.std.proofs.lemmas.Map.Steps.{set_value_same}
use Rattle.std.proofs.lemmas.Result.{err_from_is_err_and}
use Rattle.mesh_model.specs.Routes.Addresses.{same_mac}
use Rattle.tt_global.specs.Kept.{Announces, stamp_in}
use Rattle.tt_global.proofs.CommitLemmas.{keeps_commits}
use Rattle.tt_global.proofs.StandLemmas.{announced_stands, announced_written}
use Rattle.tt_global.proofs.globals.Globals.announce.Goals as goal

pub returns-in_err-heard-in-Some-clause-err : goal.returns-in_err-heard-in-Some-clause-err
returns-in_err-heard-in-Some-clause-err g c =
    let old = c.args.self.now in
    let found : lookup (same_mac c.args.orig) old ≡ Some c.in-Some.known.now = search rules in
    let written : (c.get_mut.follows.lender c.announce.new.self).entries ≡ set_value (same_mac c.args.orig) old c.announce.new.self = search rules in
    let error = err_from_is_err_and c.from_residual.result c.from_residual.ensures.1 in
    rw error.1 (written ∙ ap (set_value (same_mac c.args.orig) old) c.in_err-heard-in-Some.ensures.err ∙ set_value_same (same_mac c.args.orig) old c.in-Some.known.now found)

pub returns-in_ok-heard-in-Some-clause-ok : goal.returns-in_ok-heard-in-Some-clause-ok
returns-in_ok-heard-in-Some-clause-ok g c =
    λ calls frame stands.
    let old = c.args.self.now in
    let told = stamp_in c.args.announced.now in
    let changes = c.args.announced.now.changes in
    let found : lookup (same_mac c.args.orig) old ≡ Some c.in-Some.known.now = search rules in
    let written : (c.get_mut.follows.lender c.announce.new.self).entries ≡ set_value (same_mac c.args.orig) old c.announce.new.self = search rules in
    announced_stands calls c.args.orig frame told changes old _ stands (announced_written c.args.orig told changes old _ c.announce.new.self c.in-Some.known.now found c.in_ok-heard-in-Some.ensures.ok written)

pub returns-in_ok-heard-in-Some-clause-commits : goal.returns-in_ok-heard-in-Some-clause-commits
returns-in_ok-heard-in-Some-clause-commits g c =
    λ calls frame made stands came. keeps_commits made c.args.orig _ _ (returns-in_ok-heard-in-Some-clause-ok g c calls frame stands) came

pub returns-in_ok-heard-in-None-clause-ok : goal.returns-in_ok-heard-in-None-clause-ok
returns-in_ok-heard-in-None-clause-ok g c =
    λ calls frame stands.
    let old = c.args.self.now in
    let told = stamp_in c.args.announced.now in
    let changes = c.args.announced.now.changes in
    let same : c.get_mut.follows.lender-at-none.entries ≡ old = search rules in
    announced_stands calls c.args.orig frame told changes old _ stands (subst (λ kept. Announces c.args.orig told changes kept c.announce_first.new.self) same c.in_ok-heard-in-None.ensures.ok)

pub returns-in_ok-heard-in-None-clause-commits : goal.returns-in_ok-heard-in-None-clause-commits
returns-in_ok-heard-in-None-clause-commits g c =
    λ calls frame made stands came. keeps_commits made c.args.orig _ _ (returns-in_ok-heard-in-None-clause-ok g c calls frame stands) came
