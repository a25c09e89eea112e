use Rattle.mesh_bla.proofs.ClaimLemmas.{nothing_stands}
use Rattle.mesh_bla.proofs.claims.Claims.new.Goals as goal

pub returns : goal.returns
returns c = nothing_stands c.args.me c.new.result.entries c.new.ensures.empty
