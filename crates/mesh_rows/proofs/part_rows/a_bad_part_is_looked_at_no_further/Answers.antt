use Rattle.std.proofs.Common.{refl}
use Rattle.mesh_rows.proofs.TablesOnLiterals.{tables_on_literals}
use Rattle.mesh_rows.proofs.part_rows.a_bad_part_is_looked_at_no_further.Goals as goal

pub returns-clause-none : goal.returns-clause-none
unfolding tables_on_literals
returns-clause-none c = refl

pub returns-clause-five : goal.returns-clause-five
unfolding tables_on_literals
returns-clause-five c = refl

pub returns-clause-most : goal.returns-clause-most
unfolding tables_on_literals
returns-clause-most c = refl

pub returns-clause-at_count : goal.returns-clause-at_count
unfolding tables_on_literals
returns-clause-at_count c = refl

pub returns-clause-four : goal.returns-clause-four
unfolding tables_on_literals
returns-clause-four c = refl

pub returns-clause-untold : goal.returns-clause-untold
unfolding tables_on_literals
returns-clause-untold c = refl

pub returns-clause-kept : goal.returns-clause-kept
unfolding tables_on_literals
returns-clause-kept c = refl
