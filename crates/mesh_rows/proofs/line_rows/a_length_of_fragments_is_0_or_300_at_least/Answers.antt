use Rattle.std.proofs.Common.{refl}
use Rattle.mesh_rows.proofs.LineOnLiterals.{line_on_literals}
use Rattle.mesh_rows.proofs.line_rows.a_length_of_fragments_is_0_or_300_at_least.Goals as goal

pub returns-clause-off : goal.returns-clause-off
unfolding line_on_literals
returns-clause-off c = refl

pub returns-clause-least : goal.returns-clause-least
unfolding line_on_literals
returns-clause-least c = refl

pub returns-clause-greatest : goal.returns-clause-greatest
unfolding line_on_literals
returns-clause-greatest c = refl

pub returns-clause-below : goal.returns-clause-below
unfolding line_on_literals
returns-clause-below c = refl

pub returns-clause-past : goal.returns-clause-past
unfolding line_on_literals
returns-clause-past c = refl

pub returns-clause-no_number : goal.returns-clause-no_number
unfolding line_on_literals
returns-clause-no_number c = refl

pub returns-clause-missing : goal.returns-clause-missing
unfolding line_on_literals
returns-clause-missing c = refl
