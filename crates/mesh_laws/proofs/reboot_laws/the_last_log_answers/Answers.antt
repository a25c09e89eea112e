use Rattle.mesh_laws.proofs.LastLogLemmas.{last_log_answers}
use Rattle.mesh_laws.proofs.OffLines.{runs_reboot_off_lans}
use Rattle.mesh_laws.proofs.reboot_laws.the_last_log_answers.Goals as goal

pub returns : goal.returns
returns c = record { answers = last_log_answers; runs = runs_reboot_off_lans }
