use Rattle.mesh_laws.proofs.MisledWorld.{is_misled}
use Rattle.mesh_laws.proofs.machine_laws.an_alias_misleads.Goals as goal

pub returns : goal.returns
returns c = is_misled
