use Rattle.std.proofs.Common.{refl}
use Rattle.mesh_rows.proofs.TablesOnLiterals.{tables_on_literals}
use Rattle.mesh_rows.proofs.commit_rows.a_client_whose_flags_change_is_committed_anew.Goals as goal

pub returns : goal.returns
unfolding tables_on_literals
returns c = record { commits = refl; changes = refl; sums = refl; root = refl }
