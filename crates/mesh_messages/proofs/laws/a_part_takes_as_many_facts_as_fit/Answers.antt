use Rattle.mesh_messages.proofs.TransactionLemmas.{takes_most}
use Rattle.mesh_messages.proofs.laws.a_part_takes_as_many_facts_as_fit.Goals as goal

pub returns : goal.returns
returns c = takes_most
