use Rattle.std.proofs.Common.{refl}
use Rattle.mesh_rows.proofs.LineOnLiterals.{line_on_literals}
use Rattle.mesh_rows.proofs.line_rows.options_stand_in_any_order.Goals as goal

pub returns : goal.returns
unfolding line_on_literals
returns c = record { all = refl; usual = refl }
