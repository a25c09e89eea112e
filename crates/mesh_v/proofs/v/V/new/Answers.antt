use Rattle.mesh_v.proofs.StandLemmas.{new_stands}
use Rattle.mesh_v.proofs.v.V.new.Goals as goal

pub returns : goal.returns
returns c = new_stands c.args.me c.new.result.entries c.new-2.result.entries c.new.ensures.empty c.new-2.ensures.empty
