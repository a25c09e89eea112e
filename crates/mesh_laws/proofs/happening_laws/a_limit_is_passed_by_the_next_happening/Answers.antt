use Rattle.mesh_laws.proofs.Schedule.Stops.{passed_next}
use Rattle.mesh_laws.proofs.happening_laws.a_limit_is_passed_by_the_next_happening.Goals as goal

pub returns : goal.returns
returns c = λ setup t mesh passed e. passed_next setup t mesh passed e
