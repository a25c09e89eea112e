use Rattle.std.proofs.Common.{refl}
use Rattle.mesh_rows.proofs.LineOnLiterals.{line_on_literals}
use Rattle.mesh_rows.proofs.line_rows.another_word_is_no_option.Goals as goal

pub returns : goal.returns
unfolding line_on_literals
returns c = record { twice = refl; outside = refl; none = refl; extra = refl }
