use Rattle.mesh_tie.proofs.LineReach.{commands_are_steps}
use Rattle.mesh_tie.proofs.run_laws.commands_are_steps.Goals as goal

pub returns : goal.returns
returns c = commands_are_steps
