use Rattle.std.proofs.Common.{length}
use Rattle.alfred_core.proofs.primaries.+best_row.Given as goal

abbrev pub decreases-best_row : goal.decreases-best_row
decreases-best_row l = length l.rows.now
