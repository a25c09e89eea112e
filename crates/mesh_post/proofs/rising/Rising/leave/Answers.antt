use Rattle.std.proofs.Common.{◌≡◌, sym, subst, ◌∙◌, false, drop, List, Some}
use Rattle.mesh_model.specs.declared.happening.Happening.{Happening}
use Rattle.mesh_model.specs.Net.Happenings.{is_before}
use Rattle.mesh_model.specs.Net.Next.{AtMost, Has}
use Rattle.mesh_post.specs.Waiting.{IsEarliest, IsRising, Leaves}
use Rattle.mesh_post.proofs.RisingLemmas.{early_leaves, front_leaves, none_leaves, rest_rises}
use Rattle.mesh_post.proofs.rising.Rising.leave.Goals as goal

pub invariant_of-self-inside : goal.invariant_of-self-inside
invariant_of-self-inside c = (subst IsRising (sym c.pop_front.ensures.rest) (rest_rises c.self.inside.waiting.items c.self.inside.rising), tt)

pub returns-in_default : goal.returns-in_default
returns-in_default c = none_leaves c.args.h c.args.self.now c.in_default.ensures

pub returns-then-is_before : goal.returns-then-is_before
returns-then-is_before c = early_leaves c.args.h c.in-Some.first c.args.self.now c.in-Some.ensures (sym c.is_before.ensures ∙ c.if-is_before.true)

pub returns : goal.returns
returns c =
    let late : is_before c.args.h c.in-Some.first ≡ false = sym c.is_before.ensures ∙ c.if-is_before.false in
    let front : Leaves c.args.h c.self.inside.waiting.items (drop 1 c.self.inside.waiting.items) = front_leaves c.args.h c.in-Some.first c.self.inside.waiting.items c.self.inside.rising
    (subst (λ q. IsEarliest q (Some c.in-Some.first)) (sym c.self.view_is) c.in-Some.ensures) late (subst (λ q. (x : Happening) → Has q x → AtMost c.args.h x) (sym c.self.view_is) c.requires) in
    subst (λ (q : List Happening). Leaves c.args.h q c.pop_front.new.self.items) c.self.view_is (subst (Leaves c.args.h c.self.inside.waiting.items) (sym c.pop_front.ensures.rest) front)
