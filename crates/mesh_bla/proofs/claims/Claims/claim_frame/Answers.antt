use Rattle.std.proofs.Common.{◌≡◌, None, ap, is_some, subst, sym, ◌∙◌}
use Rattle.std.specs.Map.{lookup}
use Rattle.std.specs.Ordering.{eq_by_cmp}
use Rattle.std.proofs.lemmas.Bool.{false≢true}
use Rattle.mesh_base.specs.KeyOrder.{key_order}
use Rattle.mesh_base.specs.contracts.client.KeyOrd.TheImpl.Laws.{matches_eq-law}
use Rattle.mesh_model.specs.Bridges.Claims.{ClaimCall}
use Rattle.mesh_bla.specs.Claims.{ClaimsStand}
use Rattle.mesh_bla.proofs.ClaimLemmas.{kept_there, looked_up, noted}
use Rattle.mesh_bla.proofs.claims.Claims.claim_frame.Goals as goal

pub returns-clause-ok : goal.returns-clause-ok
returns-clause-ok c =
    λ me calls stands.
    let call : ClaimCall = record { moment = c.args.now; sender = c.args.sender; key = c.args.key; claim = c.args.claim } in
    let done = c.in_ok-insert_sorted.ensures in
    noted _ matches_eq-law call (record { me = c.self.inside.me; kept = c.self.inside.kept.entries }) c.insert_sorted.new.self.entries done.sorted done.unique done.updates.0 me calls
    (subst (λ claims. ClaimsStand claims me calls) (sym c.self.view_is) stands)

pub returns-in_err-insert_sorted-clause-known : goal.returns-in_err-insert_sorted-clause-known
returns-in_err-insert_sorted-clause-known c =
    λ me calls stands there.
    let kept = c.self.inside.kept.entries in
    let absent : lookup (eq_by_cmp key_order c.args.key) kept ≡ None = sym (looked_up _ matches_eq-law c.args.key kept) ∙ c.in_err-insert_sorted.ensures.absent in
    absurd (false≢true (ap is_some (sym absent) ∙ kept_there (record { me = c.self.inside.me; kept = kept }) me calls c.args.key (subst (λ claims. ClaimsStand claims me calls) (sym c.self.view_is) stands) there))
