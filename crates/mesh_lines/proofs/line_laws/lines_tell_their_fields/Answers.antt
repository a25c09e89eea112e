use Rattle.mesh_lines.proofs.FieldLemmas.{alias_lines_tell_fields, entry_lines_tell_fields, frame_lines_tell_fields, ok_lines_tell_fields}
use Rattle.mesh_lines.proofs.line_laws.lines_tell_their_fields.Goals as goal

pub returns-clause-originators : goal.returns-clause-originators
returns-clause-originators c = ok_lines_tell_fields

pub returns-clause-entries : goal.returns-clause-entries
returns-clause-entries c = entry_lines_tell_fields

pub returns-clause-aliases : goal.returns-clause-aliases
returns-clause-aliases c = alias_lines_tell_fields

pub returns-clause-frames : goal.returns-clause-frames
returns-clause-frames c = frame_lines_tell_fields
