use Rattle.std.proofs.Common.{rules, ap, ◌∙◌, ◌≡◌, option_map}
use Rattle.std.specs.Map.{lookup}
use Rattle.mesh_model.specs.Routes.Addresses.{same_mac}
use Rattle.tt_global.proofs.PlaceLemmas.{byte_told}
use Rattle.tt_global.proofs.globals.Globals.told.Goals as goal

pub returns : goal.returns
returns c =
    λ calls stands.
    let byte : c.map.result ≡ option_map (λ known. known.byte) (lookup (same_mac c.args.orig) c.args.self.now) = search rules in
    byte ∙ byte_told (lookup (same_mac c.args.orig) c.args.self.now) ∙ ap (option_map (λ stamp. stamp.byte)) (stands.told c.args.orig)
