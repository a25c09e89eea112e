use Rattle.mesh_frag.proofs.ComeBackLemmas.{cuts_come_back}
use Rattle.mesh_frag.proofs.laws.cuts_come_back.Goals as goal

pub returns : goal.returns
returns c = cuts_come_back
