use Rattle.mesh_messages.proofs.Rewritten.{fact_message_back}
use Rattle.mesh_messages.proofs.laws.a_written_fact_message_is_read_again.Goals as goal

pub returns : goal.returns
returns c = fact_message_back
