use Rattle.std.proofs.Common.{length}
use Rattle.mesh_tvlv.proofs.FlawLemmas.{IsSound}
use Rattle.mesh_tvlv.proofs.soundness.first_flaw.Given as goal

abbrev pub invariant-loop-next : goal.invariant-loop-next
invariant-loop-next l = IsSound l.bytes l.walk

abbrev pub decreases-loop-next : goal.decreases-loop-next
decreases-loop-next l = length l.walk.left
