use Rattle.std.proofs.Common.{◌∙◌, ap, sym}
use Rattle.std.proofs.lemmas.Result.{err_from_is_err_and}
use Rattle.mesh_messages.specs.LentFacts.{lent_facts}
use Rattle.node_facts.proofs.asking.tell_own.Goals as goal

pub returns-in_err-tell_facts : goal.returns-in_err-tell_facts
returns-in_err-tell_facts g c = λ known stands.
    let p = err_from_is_err_and c.from_residual-in_err-tell_facts.result c.from_residual-in_err-tell_facts.ensures.1 in
    let facts = ap lent_facts c.as_slice.ensures.value ∙ c.in_ok-facts.ensures c.args.at.me known stands.services.store in
    rw (p.1, p.2, sym facts) c.in_err-tell_facts.ensures

pub returns : goal.returns
returns g c = λ known stands.
    let facts = ap lent_facts c.as_slice.ensures.value ∙ c.in_ok-facts.ensures c.args.at.me known stands.services.store in
    rw (sym facts) c.in_ok-tell_facts.ensures
