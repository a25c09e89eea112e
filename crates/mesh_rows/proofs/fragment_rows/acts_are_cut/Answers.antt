use Rattle.std.proofs.Common.{refl}
use Rattle.mesh_rows.proofs.FragmentsOnLiterals.{fragments_on_literals}
use Rattle.mesh_rows.proofs.fragment_rows.acts_are_cut.Goals as goal

pub returns-clause-cut : goal.returns-clause-cut
unfolding fragments_on_literals
returns-clause-cut c = refl

pub returns-clause-other_kind : goal.returns-clause-other_kind
unfolding fragments_on_literals
returns-clause-other_kind c = refl

pub returns-clause-too_long : goal.returns-clause-too_long
unfolding fragments_on_literals
returns-clause-too_long c = refl

pub returns-clause-last : goal.returns-clause-last
unfolding fragments_on_literals
returns-clause-last c = refl

pub returns-clause-behind : goal.returns-clause-behind
unfolding fragments_on_literals
returns-clause-behind c = refl

pub returns-clause-before : goal.returns-clause-before
unfolding fragments_on_literals
returns-clause-before c = refl
