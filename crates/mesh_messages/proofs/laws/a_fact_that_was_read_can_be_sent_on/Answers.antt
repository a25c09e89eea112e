use Rattle.mesh_messages.proofs.SentOn.{sent_on}
use Rattle.mesh_messages.proofs.laws.a_fact_that_was_read_can_be_sent_on.Goals as goal

pub returns : goal.returns
returns c = sent_on
