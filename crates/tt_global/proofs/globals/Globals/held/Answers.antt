use Rattle.std.proofs.Common.{rules, ap, sym, ◌∙◌, ◌≡◌, option_map, Some, None}
use Rattle.std.specs.Map.{lookup}
use Rattle.mesh_model.specs.Routes.Addresses.{same_mac}
use Rattle.tt_global.specs.Globals.{asked_version}
use Rattle.tt_global.specs.Kept.{held_in, version_of}
use Rattle.tt_global.proofs.globals.Globals.held.Goals as goal

pub returns-in_err-held : goal.returns-in_err-held
returns-in_err-held c =
    λ calls stands.
    let found : lookup (same_mac c.args.orig) c.args.self.now ≡ Some c.in_ok-get.field-0.now = search rules in
    let none : c.in_ok-get.field-0.now.held ≡ None = search rules in
    ap (option_map asked_version) c.from_residual-in_err-held.ensures ∙ ap (option_map version_of) (sym none) ∙ ap held_in (sym found) ∙ stands.held c.args.orig

pub returns : goal.returns
returns c =
    λ calls stands.
    let found : lookup (same_mac c.args.orig) c.args.self.now ≡ Some c.in_ok-get.field-0.now = search rules in
    let some : c.in_ok-get.field-0.now.held ≡ Some c.in_ok-held.held.now = search rules in
    ap (option_map version_of) (sym some) ∙ ap held_in (sym found) ∙ stands.held c.args.orig
