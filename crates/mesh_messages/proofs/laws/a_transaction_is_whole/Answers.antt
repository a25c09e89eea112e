use Rattle.mesh_messages.proofs.TransactionLemmas.{transaction_whole}
use Rattle.mesh_messages.proofs.laws.a_transaction_is_whole.Goals as goal

pub returns : goal.returns
returns c = transaction_whole
