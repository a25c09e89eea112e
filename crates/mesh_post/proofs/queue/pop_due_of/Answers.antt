use Rattle.std.proofs.Common.{◌∙◌, refl, sym, subst, inr}
use Rattle.mesh_laws.proofs.Schedule.Order.{at_most_trans, not_before}
use Rattle.mesh_post.specs.Waiting.{IsEarliest}
use Rattle.mesh_post.proofs.RisingLemmas.{all_after, none_at_all, none_due, none_here, none_there, popped_both, some_here, some_there}
use Rattle.mesh_post.proofs.queue.pop_due_of.Goals as goal

pub returns-in-None-None-clause-none : goal.returns-in-None-None-clause-none
returns-in-None-None-clause-none c =
    let a = subst (IsEarliest c.args.here.now) c.in-None-None.is-0 c.earliest.ensures in
    let b = subst (IsEarliest c.args.there.now) c.in-None-None.is-1 c.earliest-2.ensures in
    (refl, refl, none_at_all c.args.here.now c.args.there.now c.args.t a b)

pub returns-in-None-Some-clause-some : goal.returns-in-None-Some-clause-some
returns-in-None-Some-clause-some c =
    let a = subst (IsEarliest c.args.here.now) c.in-None-Some.is-0 c.earliest.ensures in
    some_there c.pop_due.result c.in-None-Some.b c.args.here.now c.args.there.now c.pop_due.new.self c.args.t (λ x has. absurd (a x has)) c.pop_due.ensures.some

pub returns-in-None-Some-clause-none : goal.returns-in-None-Some-clause-none
returns-in-None-Some-clause-none c =
    let a = subst (IsEarliest c.args.here.now) c.in-None-Some.is-0 c.earliest.ensures in
    let b = subst (IsEarliest c.args.there.now) c.in-None-Some.is-1 c.earliest-2.ensures in
    none_there c.pop_due.result c.in-None-Some.b c.args.here.now c.args.there.now c.pop_due.new.self c.args.t b (λ x has. absurd (a x has)) c.pop_due.ensures.none

pub returns-in-Some-None-clause-some : goal.returns-in-Some-None-clause-some
returns-in-Some-None-clause-some c =
    let b = subst (IsEarliest c.args.there.now) c.in-Some-None.is-1 c.earliest-2.ensures in
    some_here c.pop_due-in-Some-None.result c.in-Some-None.a c.args.here.now c.pop_due-in-Some-None.new.self c.args.there.now c.args.t (λ x has. absurd (b x has)) c.pop_due-in-Some-None.ensures.some

pub returns-in-Some-None-clause-none : goal.returns-in-Some-None-clause-none
returns-in-Some-None-clause-none c =
    let a = subst (IsEarliest c.args.here.now) c.in-Some-None.is-0 c.earliest.ensures in
    let b = subst (IsEarliest c.args.there.now) c.in-Some-None.is-1 c.earliest-2.ensures in
    none_here c.pop_due-in-Some-None.result c.in-Some-None.a c.args.here.now c.pop_due-in-Some-None.new.self c.args.there.now c.args.t a (λ x has. absurd (b x has)) c.pop_due-in-Some-None.ensures.none

pub returns-then-is_before-clause-some : goal.returns-then-is_before-clause-some
returns-then-is_before-clause-some c =
    let b = subst (IsEarliest c.args.there.now) c.in-Some-Some.is-1 c.earliest-2.ensures in
    let early = sym c.is_before.ensures ∙ c.if-is_before.true in
    some_here c.pop_due-then-is_before.result c.in-Some-Some.a c.args.here.now c.pop_due-then-is_before.new.self c.args.there.now c.args.t (all_after c.in-Some-Some.a c.in-Some-Some.b c.args.there.now early b) c.pop_due-then-is_before.ensures.some

pub returns-then-is_before-clause-none : goal.returns-then-is_before-clause-none
returns-then-is_before-clause-none c =
    let a = subst (IsEarliest c.args.here.now) c.in-Some-Some.is-0 c.earliest.ensures in
    let b = subst (IsEarliest c.args.there.now) c.in-Some-Some.is-1 c.earliest-2.ensures in
    let early = sym c.is_before.ensures ∙ c.if-is_before.true in
    none_here c.pop_due-then-is_before.result c.in-Some-Some.a c.args.here.now c.pop_due-then-is_before.new.self c.args.there.now c.args.t a (λ x has. inr (all_after c.in-Some-Some.a c.in-Some-Some.b c.args.there.now early b x has)) c.pop_due-then-is_before.ensures.none

pub returns-then-is_before-2-clause-some : goal.returns-then-is_before-2-clause-some
returns-then-is_before-2-clause-some c =
    let a = subst (IsEarliest c.args.here.now) c.in-Some-Some.is-0 c.earliest.ensures in
    let early = sym c.is_before-in-Some-Some.ensures ∙ c.if-is_before-2.true in
    some_there c.pop_due-then-is_before-2.result c.in-Some-Some.b c.args.here.now c.args.there.now c.pop_due-then-is_before-2.new.self c.args.t (all_after c.in-Some-Some.b c.in-Some-Some.a c.args.here.now early a) c.pop_due-then-is_before-2.ensures.some

pub returns-then-is_before-2-clause-none : goal.returns-then-is_before-2-clause-none
returns-then-is_before-2-clause-none c =
    let a = subst (IsEarliest c.args.here.now) c.in-Some-Some.is-0 c.earliest.ensures in
    let b = subst (IsEarliest c.args.there.now) c.in-Some-Some.is-1 c.earliest-2.ensures in
    let early = sym c.is_before-in-Some-Some.ensures ∙ c.if-is_before-2.true in
    none_there c.pop_due-then-is_before-2.result c.in-Some-Some.b c.args.here.now c.args.there.now c.pop_due-then-is_before-2.new.self c.args.t b (λ x has. inr (all_after c.in-Some-Some.b c.in-Some-Some.a c.args.here.now early a x has)) c.pop_due-then-is_before-2.ensures.none

pub returns-then-a-t-clause-none : goal.returns-then-a-t-clause-none
returns-then-a-t-clause-none c =
    let a = subst (IsEarliest c.args.here.now) c.in-Some-Some.is-0 c.earliest.ensures in
    let b = subst (IsEarliest c.args.there.now) c.in-Some-Some.is-1 c.earliest-2.ensures in
    let low = not_before c.in-Some-Some.b c.in-Some-Some.a (sym c.is_before-in-Some-Some.ensures ∙ c.if-is_before-2.false) in
    (refl, refl, none_due c.in-Some-Some.a c.args.here.now c.args.there.now c.args.t c.if-a-t.true a.1 (λ x has. at_most_trans c.in-Some-Some.a c.in-Some-Some.b x low (b.1 x has)))

pub leave-requires-in-Some-Some : goal.leave-requires-in-Some-Some
leave-requires-in-Some-Some c x has =
    let b = subst (IsEarliest c.args.there.now) c.in-Some-Some.is-1 c.earliest-2.ensures in
    let low = not_before c.in-Some-Some.b c.in-Some-Some.a (sym c.is_before-in-Some-Some.ensures ∙ c.if-is_before-2.false) in
    at_most_trans c.in-Some-Some.a c.in-Some-Some.b x low (b.1 x has)

pub returns-else-a-t-clause-some : goal.returns-else-a-t-clause-some
returns-else-a-t-clause-some c =
    let a = subst (IsEarliest c.args.here.now) c.in-Some-Some.is-0 c.earliest.ensures in
    popped_both c.in-Some-Some.a c.args.here.now c.leave.new.self c.args.there.now c.leave-in-Some-Some.new.self c.args.t a c.if-a-t.false c.leave.ensures c.leave-in-Some-Some.ensures
