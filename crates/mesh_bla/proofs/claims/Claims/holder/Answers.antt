use Rattle.std.proofs.Common.{◌≡◌, ◌∙◌, ap, option_map, rules}
use Rattle.mesh_model.specs.declared.claim.ClaimRow.{ClaimRow}
use Rattle.mesh_bla.proofs.ClaimLemmas.{row_holder}
use Rattle.mesh_bla.proofs.claims.Claims.holder.Goals as goal

pub returns : goal.returns
returns c =
    λ me calls stands.
    let mapped : c.map.result ≡ option_map (λ (row : ClaimRow). row.holder) c.standing.result = search rules in
    mapped ∙ ap (option_map (λ (row : ClaimRow). row.holder)) (c.standing.ensures me calls stands) ∙ row_holder calls c.args.now c.args.key
