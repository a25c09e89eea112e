use Rattle.mesh_messages.proofs.TransactionLemmas.{transaction_back}
use Rattle.mesh_messages.proofs.laws.a_written_transaction_is_read_again.Goals as goal

pub returns : goal.returns
returns c = transaction_back
