use Rattle.mesh_tie.proofs.LawLemmas.{answers_carry}
use Rattle.mesh_tie.proofs.sent_laws.answers_carry_commits.Goals as goal

pub returns : goal.returns
returns c = answers_carry
