use Rattle.std.proofs.Common.{refl}
use Rattle.mesh_rows.proofs.FragmentsOnLiterals.{fragments_on_literals}
use Rattle.mesh_rows.proofs.fragment_rows.an_assembly_is_open_for_a_while.Goals as goal

pub returns-clause-in_time : goal.returns-clause-in_time
unfolding fragments_on_literals
returns-clause-in_time c = refl

pub returns-clause-too_late : goal.returns-clause-too_late
unfolding fragments_on_literals
returns-clause-too_late c = refl

pub returns-clause-anew : goal.returns-clause-anew
unfolding fragments_on_literals
returns-clause-anew c = refl

pub returns-clause-since_the_first : goal.returns-clause-since_the_first
unfolding fragments_on_literals
returns-clause-since_the_first c = refl

pub returns-clause-gone : goal.returns-clause-gone
unfolding fragments_on_literals
returns-clause-gone c = refl
