use Rattle.std.proofs.Common.{rules, sym, ◌∙◌, ◌≡◌, Some}
use Rattle.std.specs.Map.{lookup}
use Rattle.mesh_model.specs.Routes.Addresses.{same_mac}
use Rattle.tt_global.proofs.CommitLemmas.{agreed_by_kept, agreed_holds_told}
use Rattle.tt_global.proofs.globals.Globals.is_ok.Goals as goal

pub returns-in-Some-clause-agreed : goal.returns-in-Some-clause-agreed
returns-in-Some-clause-agreed c =
    λ calls stands.
    let found : lookup (same_mac c.args.orig) c.args.self.now ≡ Some c.in-Some.known.now = search rules in
    c.is_agreed.ensures ∙ agreed_by_kept c.args.self.now calls stands c.args.orig c.in-Some.known.now found

pub returns-in-Some-clause-commit : goal.returns-in-Some-clause-commit
returns-in-Some-clause-commit c =
    λ calls made stands came ok.
    let found : lookup (same_mac c.args.orig) c.args.self.now ≡ Some c.in-Some.known.now = search rules in
    agreed_holds_told c.args.self.now calls stands c.args.orig c.in-Some.known.now found made came (sym c.is_agreed.ensures ∙ ok)
