use Rattle.std.proofs.Common.{refl, sym, subst}
use Rattle.std.proofs.lemmas.Result.{err_from_is_err_and}
use Rattle.mesh_net.specs.NetStands.{NetStands}
use Rattle.mesh_net.proofs.PopLemmas.{none_quiet}
use Rattle.mesh_net.proofs.ReachedLemmas.{reached}
use Rattle.mesh_net.proofs.Ends.{begun_step, failed, stage_due, ok_has, on_lans, on_links, popped_net, stepped, tick_due}
use Rattle.mesh_net.proofs.net.Net.step.Goals as goal

pub happen_whole-given-requires-clause-stage : goal.happen_whole-given-requires-clause-stage
happen_whole-given-requires-clause-stage g c =
    let live = c.requires.live in
    stage_due g.A.Algo.queries g.A.Algo.stands c.args.self.now c.pop_due.new.self c.args.t c.in-Some.h live.choice live.clock live.mesh live.standing c.in-Some.ensures.some c.requires.soon

pub happen_whole-given-requires-clause-tick : goal.happen_whole-given-requires-clause-tick
happen_whole-given-requires-clause-tick g c =
    let live = c.requires.live in
    tick_due g.A.Algo.queries g.A.Algo.stands c.args.self.now c.pop_due.new.self c.args.t c.in-Some.h live.choice live.clock live.mesh live.standing c.in-Some.ensures.some c.requires.soon

pub returns-in_default-clause-stepped : goal.returns-in_default-clause-stepped
returns-in_default-clause-stepped g c = λ choice clock mesh s. record {
  quiet = none_quiet c.args.self.now.post.queue c.args.t mesh (reached g.A.Algo.queries clock mesh s.reached).sound s.kept.amid.waits c.in_default.ensures.none.1;
  standing = subst (λ q. NetStands g.A.Algo.queries g.A.Algo.stands (popped_net g.A.Algo.queries g.A.Algo.stands c.args.self.now q) choice clock mesh) (sym c.in_default.ensures.none.0) s;
  as_before = refl;
}

pub returns-in_err-settle-clause-cause : goal.returns-in_err-settle-clause-cause
returns-in_err-settle-clause-cause g c = λ choice clock mesh s.
    let q = g.A.Algo.queries in
    let st = g.A.Algo.stands in
    let net = c.args.self.now in
    let rest = c.pop_due.new.self in
    let begun = begun_step q st net rest c.args.t c.in-Some.h choice clock mesh s c.in-Some.ensures.some c.requires.soon in
    let p = err_from_is_err_and c.from_residual.result c.from_residual.ensures.1 in
    rw (p.1, p.2) (failed q st net rest c.args.t c.in-Some.h choice clock mesh s c.in-Some.ensures.some c.requires.soon c.happen_whole-given.result c.in_err-settle.field-0.0 c.in_err-settle.ensures.cause
    (c.happen_whole-given.ensures.cause choice c.in-Some.h _ mesh begun (on_links q st net choice clock mesh s) (on_lans q st net choice clock mesh s)))

pub returns-clause-stepped : goal.returns-clause-stepped
returns-clause-stepped g c = λ choice clock mesh s.
    let q = g.A.Algo.queries in
    let st = g.A.Algo.stands in
    let net = c.args.self.now in
    let rest = c.pop_due.new.self in
    let begun = begun_step q st net rest c.args.t c.in-Some.h choice clock mesh s c.in-Some.ensures.some c.requires.soon in
    let ok = c.in_ok-settle.ensures.ok in
    stepped q st net rest c.args.t c.in-Some.h choice clock mesh s c.in-Some.ensures.some c.requires.soon c.happen_whole-given.new.self c.settle.new.self _ c.args.log.now c.happen_whole-given.new.log c.settle.new.log
    c.happen_whole-given.ensures.kept ok.1 (record { post = refl; sent = refl; seats = refl; watch = refl; dead = refl }) refl refl ok.2
    (ok_has c.happen_whole-given.result ok.0 (c.happen_whole-given.ensures.happened choice c.in-Some.h _ mesh begun (on_links q st net choice clock mesh s) (on_lans q st net choice clock mesh s) s.watched))
