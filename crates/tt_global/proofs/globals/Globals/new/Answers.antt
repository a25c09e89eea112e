use Rattle.tt_global.proofs.StandLemmas.{nothing_stands}
use Rattle.tt_global.proofs.globals.Globals.new.Goals as goal

pub returns : goal.returns
returns c = nothing_stands c.new.result.entries c.new.ensures.empty
