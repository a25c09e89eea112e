use Rattle.std.proofs.Common.{refl}
use Rattle.mesh_rows.proofs.ServicesOnLiterals.{services_on_literals}
use Rattle.mesh_rows.proofs.service_rows.a_transaction_becomes_whole.Goals as goal

pub returns-clause-last_part : goal.returns-clause-last_part
unfolding services_on_literals
returns-clause-last_part c = refl

pub returns-clause-last_end : goal.returns-clause-last_end
unfolding services_on_literals
returns-clause-last_end c = refl

pub returns-clause-missing : goal.returns-clause-missing
unfolding services_on_literals
returns-clause-missing c = refl

pub returns-clause-first_end_counts : goal.returns-clause-first_end_counts
unfolding services_on_literals
returns-clause-first_end_counts c = refl

pub returns-clause-nothing : goal.returns-clause-nothing
unfolding services_on_literals
returns-clause-nothing c = refl

pub returns-clause-in_time : goal.returns-clause-in_time
unfolding services_on_literals
returns-clause-in_time c = refl

pub returns-clause-too_late : goal.returns-clause-too_late
unfolding services_on_literals
returns-clause-too_late c = refl

pub returns-clause-gone : goal.returns-clause-gone
unfolding services_on_literals
returns-clause-gone c = refl
