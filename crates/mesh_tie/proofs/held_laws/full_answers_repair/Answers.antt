use Rattle.mesh_tie.proofs.RepairLemmas.{full_answers_repair, parts_repair}
use Rattle.mesh_tie.proofs.held_laws.full_answers_repair.Goals as goal

pub returns-clause-whole : goal.returns-clause-whole
returns-clause-whole c = full_answers_repair

pub returns-clause-parts : goal.returns-clause-parts
returns-clause-parts c = parts_repair
