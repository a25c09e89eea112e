use Rattle.std.proofs.Common.{rules, arith}
use Rattle.std.proofs.lemmas.Grind.{common_steps}
use Rattle.mesh_tvlv.specs.Walk.{seen}
use Rattle.mesh_tvlv.proofs.ContainersLemmas.{to_come-behind, to_come-none, to_come-ended}
use Rattle.mesh_tvlv.proofs.walk.TvlvIter.next.Goals as goal

pub returns-clause-gives : goal.returns-clause-gives
returns-clause-gives c = to_come-behind c.args.self.now (seen c.in-Some.container) _ _
    (search rules) (search rules) (grind (arith, common_steps)) (search rules)

pub returns-then-self-clause-none_left : goal.returns-then-self-clause-none_left
returns-then-self-clause-none_left c = to_come-ended c.args.self.now (grind (arith, common_steps))

pub returns-in_default-clause-none_left : goal.returns-in_default-clause-none_left
returns-in_default-clause-none_left c = to_come-none c.args.self.now (grind (arith, common_steps))
