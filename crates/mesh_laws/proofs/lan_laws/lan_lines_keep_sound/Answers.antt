use Rattle.std.proofs.Common.{refl}
use Rattle.mesh_model.specs.Clients.Log.{Line}
use Rattle.mesh_laws.proofs.LanLemmas.{joined_sound}
use Rattle.mesh_laws.proofs.Schedule.Sound.{lines_keep_sound}
use Rattle.mesh_laws.proofs.Schedule.Steps.{all_effect, put_joins}
use Rattle.mesh_laws.proofs.lan_laws.lan_lines_keep_sound.Goals as goal

pub returns-clause-lans : goal.returns-clause-lans
returns-clause-lans c = joined_sound

pub returns-clause-puts : goal.returns-clause-puts
returns-clause-puts c = λ setup put mesh after fits sound low e. lines_keep_sound setup mesh put.moment after fits sound (put_joins setup put mesh after low e)

pub returns-clause-gateways : goal.returns-clause-gateways
returns-clause-gateways c = λ setup gateways now line mesh after fits sound e. lines_keep_sound setup mesh now after fits sound (all_effect setup gateways now (Line line) mesh after refl (λ fs. tt) e)
