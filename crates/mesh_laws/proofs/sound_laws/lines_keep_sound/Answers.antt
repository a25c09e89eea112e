use Rattle.mesh_laws.proofs.Schedule.Steps.{delivered_effect, tickless}
use Rattle.mesh_laws.proofs.Schedule.Sound.{lines_keep_sound}
use Rattle.mesh_laws.proofs.Schedule.Added.{links_sound, nodes_sound}
use Rattle.mesh_laws.proofs.sound_laws.lines_keep_sound.Goals as goal

pub returns-clause-inputs : goal.returns-clause-inputs
returns-clause-inputs c = λ setup place now root given mesh after fits sound none gives e. lines_keep_sound setup mesh now after fits sound (tickless setup mesh place now root given after none gives e)

pub returns-clause-deliveries : goal.returns-clause-deliveries
returns-clause-deliveries c = λ setup place now mesh after fits sound e. lines_keep_sound setup mesh now after fits sound (delivered_effect setup mesh place now after e)

pub returns-clause-nodes : goal.returns-clause-nodes
returns-clause-nodes c = nodes_sound

pub returns-clause-links : goal.returns-clause-links
returns-clause-links c = links_sound
