use Rattle.std.proofs.Common.{◌≡◌, ◌++◌}
use Rattle.node_facts.proofs.lists.to_list.Given as goal

abbrev pub invariant-loop-fact : goal.invariant-loop-fact
invariant-loop-fact l = l.fn.facts ≡ l.list ++ l.fact-iterator
