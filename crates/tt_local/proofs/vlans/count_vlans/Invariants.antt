use Rattle.std.proofs.Common.{drop}
use Rattle.tt_local.specs.Vlans.{AreVlansOf}
use Rattle.tt_local.proofs.vlans.count_vlans.Given as goal

abbrev pub invariant-loop-i : goal.invariant-loop-i
invariant-loop-i l = AreVlansOf l.named.items (drop l.i l.vids)
