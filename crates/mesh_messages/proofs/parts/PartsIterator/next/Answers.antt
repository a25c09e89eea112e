use Rattle.std.proofs.Common.{arith, sym, ◌∙◌, ◌≡◌, []}
use Rattle.std.proofs.lemmas.Grind.{common_steps}
use Rattle.mesh_messages.proofs.PartLemmas.{lent_fit, lent-next, parts-none, parts-all}
use Rattle.mesh_messages.specs.LentFacts.{lent_facts}
use Rattle.mesh_messages.proofs.parts.PartsIterator.next.Goals as goal
use Rattle.mesh_messages.proofs.parts.PartsIterator.next.Goals.{then-count-eq0-via-then-count-eq0, then-count-eq0-via-else-count-eq0+then-self}

pub returns-then-count-eq0-clause-steps : goal.returns-then-count-eq0-clause-steps
returns-then-count-eq0-clause-steps c =
    let facts = lent_facts c.self.inside.left.now in
    let none : c.args.self.now ≡ [] = sym c.self.view_is ∙ elim c.then-count-eq0.branch [
      | then-count-eq0-via-then-count-eq0 w ↦ parts-none c.self.inside.number facts (grind (arith, common_steps))
      | then-count-eq0-via-else-count-eq0+then-self w ↦ parts-all c.self.inside.number facts (grind (arith, common_steps))
    ] in
    (none, none)

pub invariant_of-part : goal.invariant_of-part
invariant_of-part c = record { fits = lent_fit c.fitting-count.result c.self.inside.left.now c.fitting-count.ensures.count }

pub returns-clause-steps : goal.returns-clause-steps
returns-clause-steps c =
    sym c.self.view_is
    ∙ lent-next c.self.inside.number c.self.inside.left.now _ _ c.fitting-count.result (grind (arith, common_steps)) (grind (arith, common_steps))
    c.fitting-count.ensures.count (omega arith) (omega arith)

pub returns-clause-goes : goal.returns-clause-goes
returns-clause-goes c =
    let steps = returns-clause-steps c in
    grind (arith, common_steps)
