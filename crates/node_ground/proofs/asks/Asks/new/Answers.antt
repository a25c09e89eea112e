use Rattle.node_ground.proofs.AsksLemmas.{nothing_asked}
use Rattle.node_ground.proofs.asks.Asks.new.Goals as goal

pub returns : goal.returns
returns c = nothing_asked c.new.result.keys c.new.ensures.empty
