use Rattle.std.proofs.Common.{drop, map}
use Rattle.mesh_model.specs.Acts.Cuts.{fragment_act}
use Rattle.node_cuts.proofs.CutLemmas.{GoesOnFrom}
use Rattle.node_cuts.proofs.cutter.put_cuts.Given as goal

abbrev pub invariant-loop-place : goal.invariant-loop-place
invariant-loop-place g l = GoesOnFrom g.P.Port.takes g.P.Port.same g.P.Port.over l.fn.port (map (fragment_act l.to) l.cuts) l.port (map (fragment_act l.to) (drop l.place l.cuts))
