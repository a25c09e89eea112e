use Rattle.std.proofs.Common.{refl}
use Rattle.mesh_rows.proofs.TablesOnLiterals.{tables_on_literals}
use Rattle.mesh_rows.proofs.part_rows.parts_are_dropped.Goals as goal

pub returns-clause-another_count : goal.returns-clause-another_count
unfolding tables_on_literals
returns-clause-another_count c = refl

pub returns-clause-of_three : goal.returns-clause-of_three
unfolding tables_on_literals
returns-clause-of_three c = refl

pub returns-clause-another_byte : goal.returns-clause-another_byte
unfolding tables_on_literals
returns-clause-another_byte c = refl

pub returns-clause-other_sums : goal.returns-clause-other_sums
unfolding tables_on_literals
returns-clause-other_sums c = refl

pub returns-clause-told_again : goal.returns-clause-told_again
unfolding tables_on_literals
returns-clause-told_again c = refl

pub returns-clause-in_full : goal.returns-clause-in_full
unfolding tables_on_literals
returns-clause-in_full c = refl
