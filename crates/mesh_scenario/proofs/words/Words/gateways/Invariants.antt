use Rattle.std.proofs.Common.{length}
use Rattle.mesh_scenario.proofs.GatewayLemmas.{AreTaken}
use Rattle.mesh_scenario.proofs.words.Words.gateways.Given as goal

abbrev pub invariant-loop-found : goal.invariant-loop-found
invariant-loop-found l = AreTaken l.initial.self l.names l.self

abbrev pub decreases-loop-found : goal.decreases-loop-found
decreases-loop-found l = length l.self
