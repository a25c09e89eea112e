use Rattle.std.proofs.Common.{refl}
use Rattle.mesh_rows.proofs.TablesOnLiterals.{tables_on_literals}
use Rattle.mesh_rows.proofs.part_rows.parts_are_tried_together.Goals as goal

pub returns-clause-twice : goal.returns-clause-twice
unfolding tables_on_literals
returns-clause-twice c = refl

pub returns-clause-deletion : goal.returns-clause-deletion
unfolding tables_on_literals
returns-clause-deletion c = refl

pub returns-clause-other_sums : goal.returns-clause-other_sums
unfolding tables_on_literals
returns-clause-other_sums c = refl

pub returns-clause-gone : goal.returns-clause-gone
unfolding tables_on_literals
returns-clause-gone c = refl

pub returns-clause-stays : goal.returns-clause-stays
unfolding tables_on_literals
returns-clause-stays c = refl

pub returns-clause-alone : goal.returns-clause-alone
unfolding tables_on_literals
returns-clause-alone c = refl
