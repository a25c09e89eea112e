use Rattle.alfred_core.proofs.FactLemmas.{nothing_stands}
use Rattle.alfred_core.proofs.facts.Facts.new.Goals as goal

pub returns : goal.returns
returns c = nothing_stands c.args.me c.new.result.entries c.new.ensures.empty
