use Rattle.std.proofs.Common.{ap, sym, ◌∙◌}
use Rattle.mesh_model.specs.Bridges.Claims.{claim_holder}
use Rattle.mesh_laws.proofs.lan_laws.gateways_agree.Goals as goal

pub returns : goal.returns
returns c = λ mesh place lan first second a b now key stand found one two here there.
    let g = stand.gateways place lan found in
    ap (λ claims. claim_holder claims now key) (stand.agree first second a b here there (g.here first one ∙ sym (g.here second two)))
