use Rattle.std.proofs.Common.{ap}
use Rattle.mesh_iv.specs.Origs.{bests_of, lives_of}
use Rattle.mesh_iv.proofs.StandLemmas.{new_stands}
use Rattle.mesh_iv.proofs.iv.Iv.new.Goals as goal

pub returns : goal.returns
returns c =
    new_stands c.args.me (lives_of c.new.result.entries) c.new-2.result.entries (bests_of c.new.result.entries)
    (ap lives_of c.new.ensures.empty) c.new-2.ensures.empty (ap bests_of c.new.ensures.empty)
