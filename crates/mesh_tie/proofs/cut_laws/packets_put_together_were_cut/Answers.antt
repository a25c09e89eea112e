use Rattle.mesh_tie.proofs.CutNoted.{notes_wholes}
use Rattle.mesh_tie.proofs.CutPut.{put_together_was_cut}
use Rattle.mesh_tie.proofs.CutRuns.{runs_put_cuts_together}
use Rattle.mesh_tie.proofs.cut_laws.packets_put_together_were_cut.Goals as goal

pub returns-clause-meshes : goal.returns-clause-meshes
returns-clause-meshes c = put_together_was_cut

pub returns-clause-runs : goal.returns-clause-runs
returns-clause-runs c = runs_put_cuts_together

pub returns-clause-noted : goal.returns-clause-noted
returns-clause-noted c = notes_wholes
