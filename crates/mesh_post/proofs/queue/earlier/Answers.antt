use Rattle.std.proofs.Common.{sym, subst, ◌∙◌, ◌++◌}
use Rattle.mesh_laws.proofs.Schedule.Order.{not_before, test_before}
use Rattle.mesh_post.specs.Waiting.{IsEarliest}
use Rattle.mesh_post.proofs.RisingLemmas.{earliest_behind, earliest_both, earliest_here, earliest_there}
use Rattle.mesh_post.proofs.queue.earlier.Goals as goal

pub returns-in-None-default : goal.returns-in-None-default
returns-in-None-default c = λ xs ys p q. earliest_there xs ys c.args.there (subst (IsEarliest xs) c.in-None-default.is-0 p) q

pub returns-in-Some-None : goal.returns-in-Some-None
returns-in-Some-None c = λ xs ys p q. subst (IsEarliest (xs ++ ys)) (sym c.in-Some-None.is-0) (earliest_here xs ys c.in-Some-None.field-0-0 (subst (IsEarliest xs) c.in-Some-None.is-0 p) (subst (IsEarliest ys) c.in-Some-None.is-1 q))

pub returns-then-is_before : goal.returns-then-is_before
returns-then-is_before c = λ xs ys p q. subst (IsEarliest (xs ++ ys)) (sym c.in-Some-Some.is-1) (earliest_behind xs ys c.in-Some-Some.a c.in-Some-Some.b (subst (IsEarliest xs) c.in-Some-Some.is-0 p) (subst (IsEarliest ys) c.in-Some-Some.is-1 q)
    (test_before c.in-Some-Some.b c.in-Some-Some.a (sym c.is_before.ensures ∙ c.if-is_before.true)))

pub returns-else-is_before : goal.returns-else-is_before
returns-else-is_before c = λ xs ys p q. subst (IsEarliest (xs ++ ys)) (sym c.in-Some-Some.is-0) (earliest_both xs ys c.in-Some-Some.a c.in-Some-Some.b (subst (IsEarliest xs) c.in-Some-Some.is-0 p) (subst (IsEarliest ys) c.in-Some-Some.is-1 q)
    (not_before c.in-Some-Some.b c.in-Some-Some.a (sym c.is_before.ensures ∙ c.if-is_before.false)))
