use Rattle.mesh_tie.proofs.CutPieces.{cuts_are_known_by_number}
use Rattle.mesh_tie.proofs.CutPut.{fragments_are_cut}
use Rattle.mesh_tie.proofs.cut_laws.fragments_were_cut.Goals as goal

pub returns-clause-cut : goal.returns-clause-cut
returns-clause-cut c = fragments_are_cut

pub returns-clause-once : goal.returns-clause-once
returns-clause-once c = cuts_are_known_by_number
