use Rattle.std.proofs.Common.{refl}
use Rattle.mesh_rows.proofs.TablesOnLiterals.{tables_on_literals}
use Rattle.mesh_rows.proofs.part_rows.large_tables_go_in_parts.Goals as goal

pub returns-clause-whole : goal.returns-clause-whole
unfolding tables_on_literals
returns-clause-whole c = refl

pub returns-clause-two : goal.returns-clause-two
unfolding tables_on_literals
returns-clause-two c = refl

pub returns-clause-two_whole : goal.returns-clause-two_whole
unfolding tables_on_literals
returns-clause-two_whole c = refl

pub returns-clause-most : goal.returns-clause-most
unfolding tables_on_literals
returns-clause-most c = refl

pub returns-clause-changes : goal.returns-clause-changes
unfolding tables_on_literals
returns-clause-changes c = refl

pub returns-clause-empty : goal.returns-clause-empty
unfolding tables_on_literals
returns-clause-empty c = refl
