use Rattle.mesh_tie.proofs.SeenLemmas.{aliases_are_seen, aliases_are_told}
use Rattle.mesh_tie.proofs.tie_laws.aliases_are_seen.Goals as goal

pub returns-clause-told : goal.returns-clause-told
returns-clause-told c = aliases_are_told

pub returns-clause-seen : goal.returns-clause-seen
returns-clause-seen c = aliases_are_seen
