use Rattle.mesh_laws.proofs.RestartLemmas.{hears_in_order, others_are_neither, restart_is_of_life}
use Rattle.mesh_laws.proofs.reboot_laws.a_restart_is_of_its_life.Goals as goal

pub returns : goal.returns
returns c = record { wild = restart_is_of_life; others = others_are_neither; order = hears_in_order }
