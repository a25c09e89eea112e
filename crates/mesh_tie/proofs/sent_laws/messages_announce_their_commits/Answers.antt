use Rattle.mesh_tie.proofs.LawLemmas.{messages_announce}
use Rattle.mesh_tie.proofs.sent_laws.messages_announce_their_commits.Goals as goal

pub returns : goal.returns
returns c = messages_announce
