use Rattle.std.proofs.Common.{refl}
use Rattle.mesh_model.specs.Clients.Log.{Line}
use Rattle.mesh_laws.proofs.LanLemmas.{effect_bytes, joined_bytes}
use Rattle.mesh_laws.proofs.Schedule.Steps.{all_effect, put_joins}
use Rattle.mesh_laws.proofs.lan_laws.lan_lines_keep_bytes.Goals as goal

pub returns-clause-lans : goal.returns-clause-lans
returns-clause-lans c = joined_bytes

pub returns-clause-puts : goal.returns-clause-puts
returns-clause-puts c = λ setup put mesh after kept low e. effect_bytes setup put.moment mesh after kept (put_joins setup put mesh after low e)

pub returns-clause-gateways : goal.returns-clause-gateways
returns-clause-gateways c = λ setup gateways now line mesh after kept e. effect_bytes setup now mesh after kept (all_effect setup gateways now (Line line) mesh after refl (λ fs. tt) e)
