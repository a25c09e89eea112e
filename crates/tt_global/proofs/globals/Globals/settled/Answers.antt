use Rattle.std.proofs.Common.{rules, ◌≡◌, true, Some}
use Rattle.std.specs.Map.{lookup}
use Rattle.mesh_model.specs.Routes.Addresses.{same_mac}
use Rattle.tt_global.specs.Kept.{held_in, stamp}
use Rattle.tt_global.proofs.SettledLemmas.{asks_nothing, settled_as_told, stands_again}
use Rattle.tt_global.proofs.globals.Globals.settled.Goals as goal

pub returns-clause-again : goal.returns-clause-again
returns-clause-again c =
    λ calls frame changes stands.
    let known = c.in_ok-known.known.now in
    let found : lookup (same_mac c.args.orig) c.args.self.now ≡ Some known = search rules in
    let is : c.is_settled.result ≡ true = search rules in
    stands_again c.args.self.now c.args.orig known found calls stands (c.is_settled.ensures.0 is) changes frame

pub returns-clause-unasked : goal.returns-clause-unasked
returns-clause-unasked c =
    λ calls changes stands.
    let known = c.in_ok-known.known.now in
    let found : lookup (same_mac c.args.orig) c.args.self.now ≡ Some known = search rules in
    let is : c.is_settled.result ≡ true = search rules in
    asks_nothing c.args.self.now c.args.orig known found calls stands (c.is_settled.ensures.0 is) changes

pub returns-clause-sums : goal.returns-clause-sums
returns-clause-sums c =
    let known = c.in_ok-known.known.now in
    let is : c.is_settled.result ≡ true = search rules in
    settled_as_told (stamp known.byte known.sums) (held_in (Some known)) (c.is_settled.ensures.0 is)
