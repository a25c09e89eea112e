use Rattle.mesh_tie.proofs.StandLemmas.{aliases_stand_in_steps}
use Rattle.mesh_tie.proofs.alias_laws.aliases_stand_in_their_steps.Goals as goal

pub returns : goal.returns
returns c = aliases_stand_in_steps
