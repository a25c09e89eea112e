use Rattle.std.proofs.Common.{rules, ap, ◌∙◌, ◌≡◌, slice_get, Some}
use Rattle.std.specs.Map.{lookup}
use Rattle.mesh_model.specs.Routes.Addresses.{same_mac}
use Rattle.tt_global.proofs.PlaceLemmas.{row_placed}
use Rattle.tt_global.proofs.globals.Globals.row_at.Goals as goal

pub returns-clause-at_place : goal.returns-clause-at_place
returns-clause-at_place c =
    λ calls stands.
    let orig = c.in_ok-orig.orig.now in
    let known = c.in_ok-orig.known.now in
    let entry : slice_get c.args.self.now c.args.i ≡ Some (orig, known) = search rules in
    let found : lookup (same_mac orig) c.args.self.now ≡ Some known = search rules in
    ap (λ row. Some row) c.row.ensures ∙ row_placed c.args.self.now calls stands c.args.i orig known entry found
