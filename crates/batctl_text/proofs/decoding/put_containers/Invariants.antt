use Rattle.std.proofs.Common.{length}
use Rattle.batctl_text.proofs.TextLemmas.{StandsAt}
use Rattle.batctl_text.proofs.decoding.put_containers.Given as goal

abbrev pub invariant-loop-container : goal.invariant-loop-container
invariant-loop-container l = StandsAt l.initial.out.items l.tail l.out.items l.walk

abbrev pub decreases-loop-container : goal.decreases-loop-container
decreases-loop-container l = length l.walk.left
