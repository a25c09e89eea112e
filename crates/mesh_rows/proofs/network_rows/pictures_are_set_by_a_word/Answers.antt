use Rattle.std.proofs.Common.{refl}
use Rattle.mesh_rows.proofs.LineOnLiterals.{line_on_literals}
use Rattle.mesh_rows.proofs.network_rows.pictures_are_set_by_a_word.Goals as goal

pub returns-clause-on : goal.returns-clause-on
unfolding line_on_literals
returns-clause-on c = refl

pub returns-clause-shown : goal.returns-clause-shown
unfolding line_on_literals
returns-clause-shown c = refl

pub returns-clause-missing : goal.returns-clause-missing
unfolding line_on_literals
returns-clause-missing c = refl

pub returns-clause-number : goal.returns-clause-number
unfolding line_on_literals
returns-clause-number c = refl

pub returns-clause-other : goal.returns-clause-other
unfolding line_on_literals
returns-clause-other c = refl

pub returns-clause-put : goal.returns-clause-put
unfolding line_on_literals
returns-clause-put c = refl
