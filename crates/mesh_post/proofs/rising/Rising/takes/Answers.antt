use Rattle.std.proofs.Common.{rules, ◌≡◌, ◌-◌, length, sym, ◌∙◌, arith}
use Rattle.std.specs.VecDeque.{deque_len}
use Rattle.mesh_laws.proofs.Schedule.Order.{test_before}
use Rattle.mesh_post.proofs.LookUps.{got}
use Rattle.mesh_post.proofs.RisingLemmas.{behind_last, none_waits}
use Rattle.mesh_post.proofs.rising.Rising.takes.Goals as goal

pub returns-in-None : goal.returns-in-None
returns-in-None c = λ e x p. absurd (none_waits c.self.inside.waiting.items c.in-None.ensures.item.3 x (rw c.self.view_is p))

pub returns-in-Some : goal.returns-in-Some
returns-in-Some c = λ e.
    let xs = c.self.inside.waiting.items in
    let k = c.in-Some.ensures.item in
    let pos = k.3.0 in
    let len : deque_len c.self.inside.waiting ≡ length xs = search rules in
    rw (← c.self.view_is) (behind_last xs (deque_len c.self.inside.waiting - 1) c.in-Some.last.now c.args.h c.self.inside.rising
    (got xs (deque_len c.self.inside.waiting - 1) c.in-Some.last.now (omega (arith, pos, len)) k.1) (omega (arith, pos, len)) (test_before c.in-Some.last.now c.args.h (sym c.is_before.ensures ∙ e)))
