use Rattle.mesh_laws.proofs.PresentLemmas.{present_at}
use Rattle.mesh_laws.proofs.present_laws.the_last_mention_decides.Goals as goal

pub returns : goal.returns
returns c = present_at
