use Rattle.mesh_serv.proofs.OfferLemmas.{nothing_stands}
use Rattle.mesh_serv.proofs.offers.Offers.new.Goals as goal

pub returns : goal.returns
returns c = nothing_stands c.new.result.entries c.new.ensures.empty
