use Rattle.std.proofs.Common.{length}
use Rattle.mesh_scenario.proofs.words.Words.+options_beside.Given as goal

abbrev pub decreases-options_beside : goal.decreases-options_beside
decreases-options_beside l = length l.self.now
