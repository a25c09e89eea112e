use Rattle.std.proofs.Common.{refl}
use Rattle.mesh_rows.proofs.TablesOnLiterals.{tables_on_literals}
use Rattle.mesh_rows.proofs.part_rows.a_part_has_what_was_told.Goals as goal

pub returns-clause-untold : goal.returns-clause-untold
unfolding tables_on_literals
returns-clause-untold c = refl

pub returns-clause-another_byte : goal.returns-clause-another_byte
unfolding tables_on_literals
returns-clause-another_byte c = refl

pub returns-clause-other_sums : goal.returns-clause-other_sums
unfolding tables_on_literals
returns-clause-other_sums c = refl

pub returns-clause-kept : goal.returns-clause-kept
unfolding tables_on_literals
returns-clause-kept c = refl
