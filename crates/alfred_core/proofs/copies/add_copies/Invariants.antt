use Rattle.std.proofs.Common.{◌≡◌, ◌++◌, take}
use Rattle.alfred_core.proofs.copies.add_copies.Given as goal

abbrev pub invariant-loop-fact : goal.invariant-loop-fact
invariant-loop-fact l = l.others ≡ l.fn.others ++ take l.fact-index l.fact-items
