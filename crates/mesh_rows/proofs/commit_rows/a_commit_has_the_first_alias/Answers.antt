use Rattle.std.proofs.Common.{refl}
use Rattle.mesh_rows.proofs.TablesOnLiterals.{tables_on_literals}
use Rattle.mesh_rows.proofs.commit_rows.a_commit_has_the_first_alias.Goals as goal

pub returns : goal.returns
unfolding tables_on_literals
returns c = record { last = refl; before = refl }
