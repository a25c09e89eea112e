use Rattle.std.proofs.Common.{rules, arith, sym, ◌∙◌}
use Rattle.mesh_scenario.specs.Inner.Taking.{word_found}
use Rattle.mesh_scenario.proofs.GatewayLemmas.{AreTaken-more, the_gateways-extra, the_gateways-bad}
use Rattle.mesh_scenario.proofs.words.Words.gateways.Goals as goal

pub returns-then-len-eq-GATEWAY_LIMIT-clause-refused : goal.returns-then-len-eq-GATEWAY_LIMIT-clause-refused
returns-then-len-eq-GATEWAY_LIMIT-clause-refused c = the_gateways-extra _ _ _ _ (word_found c.in-Some.found)
    c.loop-found.invariant c.in-Some.ensures.some (omega arith)

pub returns-then-not-is_name-clause-refused : goal.returns-then-not-is_name-clause-refused
returns-then-not-is_name-clause-refused c = the_gateways-bad _ _ _ _ (word_found c.in-Some.found)
    c.loop-found.invariant c.in-Some.ensures.some (omega arith) (sym c.is_name.ensures ∙ c.if-not-is_name.true)

pub loop-found-preserved : goal.loop-found-preserved
loop-found-preserved c = AreTaken-more _ _ _ _ _ (word_found c.in-Some.found) c.loop-found.invariant c.in-Some.ensures.some
    (sym c.is_name.ensures ∙ c.if-not-is_name.false) (search rules) (omega arith)
