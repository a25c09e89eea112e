use Rattle.mesh_lines.proofs.SourceLemmas.{aliases_have_one_source, frames_have_one_source, originators_have_one_source}
use Rattle.mesh_lines.proofs.line_laws.lines_have_one_source.Goals as goal

pub returns-clause-originators : goal.returns-clause-originators
returns-clause-originators c = originators_have_one_source

pub returns-clause-frames : goal.returns-clause-frames
returns-clause-frames c = frames_have_one_source

pub returns-clause-aliases : goal.returns-clause-aliases
returns-clause-aliases c = aliases_have_one_source
