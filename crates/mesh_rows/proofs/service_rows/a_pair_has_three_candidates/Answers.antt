use Rattle.std.proofs.Common.{refl}
use Rattle.mesh_rows.proofs.ServicesOnLiterals.{services_on_literals}
use Rattle.mesh_rows.proofs.service_rows.a_pair_has_three_candidates.Goals as goal

pub returns-clause-first : goal.returns-clause-first
unfolding services_on_literals
returns-clause-first c = refl

pub returns-clause-second : goal.returns-clause-second
unfolding services_on_literals
returns-clause-second c = refl

pub returns-clause-tagged : goal.returns-clause-tagged
unfolding services_on_literals
returns-clause-tagged c = refl

pub returns-clause-other : goal.returns-clause-other
unfolding services_on_literals
returns-clause-other c = refl

pub returns-clause-node_a : goal.returns-clause-node_a
unfolding services_on_literals
returns-clause-node_a c = refl

pub returns-clause-node_c : goal.returns-clause-node_c
unfolding services_on_literals
returns-clause-node_c c = refl

pub returns-clause-candidates : goal.returns-clause-candidates
unfolding services_on_literals
returns-clause-candidates c = refl

pub returns-clause-round : goal.returns-clause-round
unfolding services_on_literals
returns-clause-round c = refl

pub returns-clause-few : goal.returns-clause-few
unfolding services_on_literals
returns-clause-few c = refl
