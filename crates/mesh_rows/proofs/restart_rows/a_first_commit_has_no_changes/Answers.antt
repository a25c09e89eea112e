use Rattle.std.proofs.Common.{refl}
use Rattle.mesh_rows.proofs.TablesOnLiterals.{tables_on_literals}
use Rattle.mesh_rows.proofs.restart_rows.a_first_commit_has_no_changes.Goals as goal

pub returns-clause-none : goal.returns-clause-none
unfolding tables_on_literals
returns-clause-none c = refl

pub returns-clause-told : goal.returns-clause-told
unfolding tables_on_literals
returns-clause-told c = refl

pub returns-clause-next : goal.returns-clause-next
unfolding tables_on_literals
returns-clause-next c = refl
