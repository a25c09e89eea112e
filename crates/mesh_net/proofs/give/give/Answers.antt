use Rattle.std.proofs.Common.{sym, subst}
use Rattle.mesh_node.specs.NodeStands.{given_by, is_dead}
use Rattle.mesh_post.specs.Sent.{Grew}
use Rattle.mesh_net.proofs.GiveLemmas.{by_bool, gave, given_ok, given_err, leaves_kept, same_kept}
use Rattle.mesh_net.proofs.give.give.Goals as goal

pub returns-clause-grew : goal.returns-clause-grew
returns-clause-grew g c =
    let t = c.take.ensures in
    let kept = by_bool (is_dead c.args.node.now) (λ e. same_kept _ _ (t.left (t.dead.1 e))) (λ e. let m = c.requires e in leaves_kept _ _ _ _ _ (t.puts m.me m.log 0 m.stand m.later)) in
    subst (Grew c.args.log.now) (sym (c.log-1.given.1 (sym kept.log))) kept.grew

pub returns-clause-given : goal.returns-clause-given
returns-clause-given g c = λ older last ticks mesh row number found stand late mac step may.
    let t = c.take.ensures in
    let puts = t.puts row.mac row.log number stand late in
    let kept = leaves_kept _ _ _ _ _ puts in
    given_ok g.A.Algo.queries g.A.Algo.stands c.take.new.self c.args.post.now.choice c.args.sender (given_by number c.args.input.now) c.take.new.port.post.now c.post-1.given.0 older last ticks row mesh c.args.log.now c.take.new.port.log.now c.log-1.given.0 c.take.result
    (c.post-1.given.1 (sym kept.post)) (c.log-1.given.1 (sym kept.log))
    (gave g.A.Algo.queries older last ticks _ c.take.new.port row (given_by number c.args.input.now) mesh c.take.result found mac puts step may)
    (t.noted row.mac row.log number stand late)

pub returns-clause-cause : goal.returns-clause-cause
returns-clause-cause g c = λ older last ticks mesh row number found stand late mac step may.
    given_err g.A.Algo.queries c.args.post.now.choice c.args.sender (given_by number c.args.input.now) c.take.new.port.post.now older last ticks row mesh c.args.log.now c.take.new.port.log.now c.take.result
    (gave g.A.Algo.queries older last ticks _ c.take.new.port row (given_by number c.args.input.now) mesh c.take.result found mac (c.take.ensures.puts row.mac row.log number stand late) step may)
