use Rattle.std.proofs.Common.{sym, ◌∙◌}
use Rattle.std.proofs.lemmas.Bool.{not-false}
use Rattle.node_probes.proofs.echoes.icmp.Goals as goal

pub returns-in_ok-answer-clause-noted : goal.returns-in_ok-answer-clause-noted
returns-in_ok-answer-clause-noted g c = λ known stands.
    rw (not-false _ (sym c.ne.ensures ∙ c.if-ne.false), sym c.is_answer.ensures ∙ c.if-is_answer.true) (c.in_ok-answer.ensures.noted known stands)
