use Rattle.std.proofs.Common.{refl}
use Rattle.mesh_rows.proofs.FragmentsOnLiterals.{fragments_on_literals}
use Rattle.mesh_rows.proofs.fragment_rows.an_assembly_becomes_whole.Goals as goal

pub returns-clause-cut : goal.returns-clause-cut
unfolding fragments_on_literals
returns-clause-cut c = refl

pub returns-clause-in_order : goal.returns-clause-in_order
unfolding fragments_on_literals
returns-clause-in_order c = refl

pub returns-clause-first_counts : goal.returns-clause-first_counts
unfolding fragments_on_literals
returns-clause-first_counts c = refl

pub returns-clause-missing : goal.returns-clause-missing
unfolding fragments_on_literals
returns-clause-missing c = refl

pub returns-clause-too_short : goal.returns-clause-too_short
unfolding fragments_on_literals
returns-clause-too_short c = refl

pub returns-clause-too_long : goal.returns-clause-too_long
unfolding fragments_on_literals
returns-clause-too_long c = refl

pub returns-clause-two_totals : goal.returns-clause-two_totals
unfolding fragments_on_literals
returns-clause-two_totals c = refl

pub returns-clause-empty : goal.returns-clause-empty
unfolding fragments_on_literals
returns-clause-empty c = refl
