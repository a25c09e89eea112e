use Rattle.std.proofs.Common.{refl}
use Rattle.mesh_rows.proofs.TablesOnLiterals.{tables_on_literals}
use Rattle.mesh_rows.proofs.part_rows.parts_come_in_any_order.Goals as goal

pub returns-clause-emptied : goal.returns-clause-emptied
unfolding tables_on_literals
returns-clause-emptied c = refl

pub returns-clause-gap : goal.returns-clause-gap
unfolding tables_on_literals
returns-clause-gap c = refl

pub returns-clause-bad : goal.returns-clause-bad
unfolding tables_on_literals
returns-clause-bad c = refl

pub returns-clause-later : goal.returns-clause-later
unfolding tables_on_literals
returns-clause-later c = refl

pub returns-clause-again : goal.returns-clause-again
unfolding tables_on_literals
returns-clause-again c = refl

pub returns-clause-last : goal.returns-clause-last
unfolding tables_on_literals
returns-clause-last c = refl

pub returns-clause-held : goal.returns-clause-held
unfolding tables_on_literals
returns-clause-held c = refl

pub returns-clause-ok : goal.returns-clause-ok
unfolding tables_on_literals
returns-clause-ok c = refl

pub returns-clause-gone : goal.returns-clause-gone
unfolding tables_on_literals
returns-clause-gone c = refl
