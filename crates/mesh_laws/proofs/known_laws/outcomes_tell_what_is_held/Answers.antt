use Rattle.mesh_laws.proofs.KnownLemmas.{changes_as_heard, changes_as_taken}
use Rattle.mesh_laws.proofs.known_laws.outcomes_tell_what_is_held.Goals as goal

pub returns : goal.returns
returns c = record { heard = changes_as_heard; taken = changes_as_taken }
