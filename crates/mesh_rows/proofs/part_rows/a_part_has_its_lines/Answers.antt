use Rattle.std.proofs.Common.{refl}
use Rattle.mesh_rows.proofs.DecodeOnLiterals.{decode_on_literals}
use Rattle.mesh_rows.proofs.part_rows.a_part_has_its_lines.Goals as goal

pub returns-clause-second : goal.returns-clause-second
unfolding decode_on_literals
returns-clause-second c = refl

pub returns-clause-short : goal.returns-clause-short
unfolding decode_on_literals
returns-clause-short c = refl
