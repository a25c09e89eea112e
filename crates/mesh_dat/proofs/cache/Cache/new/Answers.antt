use Rattle.mesh_dat.proofs.CacheLemmas.{nothing_stands}
use Rattle.mesh_dat.proofs.cache.Cache.new.Goals as goal

pub returns : goal.returns
returns c = nothing_stands c.new.result.entries c.new.ensures.empty
