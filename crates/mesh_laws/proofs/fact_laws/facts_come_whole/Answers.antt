use Rattle.mesh_laws.proofs.FactLemmas.{facts_come_whole, lines_put_facts, whole_push_is_taken}
use Rattle.mesh_laws.proofs.fact_laws.facts_come_whole.Goals as goal

pub returns : goal.returns
returns c = record { packets = facts_come_whole; taken = whole_push_is_taken; lines = lines_put_facts }
