use Rattle.std.proofs.Common.{refl}
use Rattle.mesh_model.specs.Clients.Log.{Line}
use Rattle.mesh_laws.proofs.LanLemmas.{effect_later, joined_later}
use Rattle.mesh_laws.proofs.Schedule.Steps.{all_effect, put_joins}
use Rattle.mesh_laws.proofs.lan_laws.lan_lines_add_later.Goals as goal

pub returns-clause-lans : goal.returns-clause-lans
returns-clause-lans c = joined_later

pub returns-clause-puts : goal.returns-clause-puts
returns-clause-puts c = λ setup put mesh after x sound low e. effect_later setup put.moment mesh after x sound (put_joins setup put mesh after low e)

pub returns-clause-gateways : goal.returns-clause-gateways
returns-clause-gateways c = λ setup gateways now line mesh after x sound e. effect_later setup now mesh after x sound (all_effect setup gateways now (Line line) mesh after refl (λ fs. tt) e)
