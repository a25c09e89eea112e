use Rattle.mesh_tie.proofs.NameSteps.{frames_by_table}
use Rattle.mesh_tie.proofs.sent_laws.frames_by_table_are_for_named_clients.Goals as goal

pub returns : goal.returns
returns c = frames_by_table
