use Rattle.std.proofs.Common.{refl}
use Rattle.mesh_rows.proofs.ServicesOnLiterals.{services_on_literals}
use Rattle.mesh_rows.proofs.service_rows.the_best_primary_is_known_and_reached.Goals as goal

pub returns-clause-greatest : goal.returns-clause-greatest
unfolding services_on_literals
returns-clause-greatest c = refl

pub returns-clause-tie : goal.returns-clause-tie
unfolding services_on_literals
returns-clause-tie c = refl

pub returns-clause-unreached : goal.returns-clause-unreached
unfolding services_on_literals
returns-clause-unreached c = refl

pub returns-clause-known : goal.returns-clause-known
unfolding services_on_literals
returns-clause-known c = refl

pub returns-clause-forgotten : goal.returns-clause-forgotten
unfolding services_on_literals
returns-clause-forgotten c = refl
