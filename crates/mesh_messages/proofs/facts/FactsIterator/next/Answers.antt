use Rattle.std.proofs.Common.{◌≡◌, [], sym, ◌∙◌}
use Rattle.mesh_messages.proofs.FactLemmas.{none_left}
use Rattle.mesh_messages.proofs.facts.FactsIterator.next.Goals as goal

pub returns-in_err-front-clause-steps : goal.returns-in_err-front-clause-steps
returns-in_err-front-clause-steps c =
    let none : c.args.self.now ≡ [] = sym c.self.view_is ∙ none_left c.self.inside.left.now c.self.invariant c.in_err-front.ensures.none in
    rw c.from_residual.ensures (none, none)
