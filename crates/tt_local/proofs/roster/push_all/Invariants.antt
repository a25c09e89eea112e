use Rattle.std.proofs.Common.{◌≡◌, ◌++◌, map, take}
use Rattle.tt_local.proofs.roster.push_all.Given as goal

abbrev pub invariant-loop-entry : goal.invariant-loop-entry
invariant-loop-entry l = l.changes ≡ l.initial.changes ++ map (λ entry. record { entry = entry; del = l.del }) (take l.entry-index l.entries)
