use Rattle.std.proofs.Common.{refl}
use Rattle.mesh_rows.proofs.TablesOnLiterals.{tables_on_literals}
use Rattle.mesh_rows.proofs.restart_rows.a_first_commit_may_have_an_alias.Goals as goal

pub returns-clause-byte : goal.returns-clause-byte
unfolding tables_on_literals
returns-clause-byte c = refl

pub returns-clause-last : goal.returns-clause-last
unfolding tables_on_literals
returns-clause-last c = refl

pub returns-clause-rebooted : goal.returns-clause-rebooted
unfolding tables_on_literals
returns-clause-rebooted c = refl

pub returns-clause-again : goal.returns-clause-again
unfolding tables_on_literals
returns-clause-again c = refl
