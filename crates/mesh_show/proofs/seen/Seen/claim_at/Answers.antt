use Rattle.mesh_model.specs.Clients.Lans.{bridge}
use Rattle.mesh_show.proofs.seen.Seen.claim_at.Goals as goal

pub returns : goal.returns
returns g c = λ me log stands. c.row_at.ensures.at_place me (bridge log).claims (c.claims.ensures me log stands)
