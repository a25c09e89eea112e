use Rattle.mesh_laws.proofs.Lines.Passing.{goes_by_happenings, goes_on}
use Rattle.mesh_laws.proofs.Lines.Slices.{ends_behind, goes_on_behind}
use Rattle.mesh_laws.proofs.line_laws.a_run_may_be_cut.Goals as goal

pub returns-clause-slices : goal.returns-clause-slices
returns-clause-slices c = goes_on

pub returns-clause-happenings : goal.returns-clause-happenings
returns-clause-happenings c = goes_by_happenings

pub returns-clause-behind : goal.returns-clause-behind
returns-clause-behind c = goes_on_behind

pub returns-clause-quiet : goal.returns-clause-quiet
returns-clause-quiet c = ends_behind
