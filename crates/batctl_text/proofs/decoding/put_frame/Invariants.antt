use Rattle.std.proofs.Common.{length}
use Rattle.batctl_text.proofs.TextLemmas.{StandsBefore}
use Rattle.batctl_text.proofs.decoding.put_frame.Given as goal

abbrev pub invariant-loop-packet : goal.invariant-loop-packet
invariant-loop-packet l = StandsBefore l.initial.out.items l.bytes l.out.items l.frame

abbrev pub decreases-loop-packet : goal.decreases-loop-packet
decreases-loop-packet l = length l.frame.packets
