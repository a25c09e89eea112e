use Rattle.std.proofs.Common.{arith}
use Rattle.mesh_laws.proofs.Schedule.Added.{empty_sound, empty_bytes}
use Rattle.mesh_laws.proofs.sound_laws.the_first_mesh_is_sound.Goals as goal

pub returns-clause-empty : goal.returns-clause-empty
returns-clause-empty c = λ watch. (empty_sound watch, empty_bytes watch)

pub returns-clause-fits : goal.returns-clause-fits
returns-clause-fits c = omega arith
