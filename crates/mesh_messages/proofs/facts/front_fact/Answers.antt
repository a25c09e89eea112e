use Rattle.std.proofs.Common.{arith}
use Rattle.std.proofs.lemmas.Grind.{common_steps}
use Rattle.mesh_messages.proofs.FactLemmas.{front_cut, front_is}
use Rattle.mesh_messages.proofs.facts.front_fact.Goals as goal

pub returns-then-bytes-lt-FACT_HEAD-clause-none : goal.returns-then-bytes-lt-FACT_HEAD-clause-none
returns-then-bytes-lt-FACT_HEAD-clause-none c = front_cut c.args.bytes.now (omega arith)

pub returns-then-bytes-end-clause-none : goal.returns-then-bytes-end-clause-none
returns-then-bytes-end-clause-none c = front_cut c.args.bytes.now (grind (arith, common_steps))

pub returns-clause-some : goal.returns-clause-some
returns-clause-some c = front_is c.args.bytes.now _ _ (grind (arith, common_steps)) (grind (arith, common_steps)) (grind (arith, common_steps))
