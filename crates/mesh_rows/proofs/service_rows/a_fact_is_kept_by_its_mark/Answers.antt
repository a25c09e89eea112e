use Rattle.std.proofs.Common.{refl}
use Rattle.mesh_rows.proofs.ServicesOnLiterals.{services_on_literals}
use Rattle.mesh_rows.proofs.service_rows.a_fact_is_kept_by_its_mark.Goals as goal

pub returns-clause-put : goal.returns-clause-put
unfolding services_on_literals
returns-clause-put c = refl

pub returns-clause-first : goal.returns-clause-first
unfolding services_on_literals
returns-clause-first c = refl

pub returns-clause-stays : goal.returns-clause-stays
unfolding services_on_literals
returns-clause-stays c = refl

pub returns-clause-dead : goal.returns-clause-dead
unfolding services_on_literals
returns-clause-dead c = refl

pub returns-clause-own_comes_back : goal.returns-clause-own_comes_back
unfolding services_on_literals
returns-clause-own_comes_back c = refl

pub returns-clause-rows : goal.returns-clause-rows
unfolding services_on_literals
returns-clause-rows c = refl
