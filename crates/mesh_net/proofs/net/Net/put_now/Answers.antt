use Rattle.std.proofs.lemmas.Result.{err_from_is_err_and}
use Rattle.mesh_net.specs.NetStands.{line_put}
use Rattle.mesh_net.proofs.LanSteps.{put_fails, tried_put}
use Rattle.mesh_net.proofs.net.Net.put_now.Goals as goal

pub returns-clause-given : goal.returns-clause-given
returns-clause-given g c = λ choice last ticks mesh begun.
    let put = line_put c.args.lan c.args.bytes c.args.self.now.clock in
    tried_put g.A.Algo.queries g.A.Algo.stands c.args.self.now.seats.items c.args.self.now.post c.put_on.new.self c.args.self.now.post.choice choice c.args.self.now.sent last ticks c.args.self.now.clock put mesh c.args.log.now c.put_on.new.log begun.stage begun.choice_is c.put_on.ensures.choice
    (c.in_ok-put_on.ensures.put g.A.Algo.queries c.args.self.now.sent last ticks mesh begun.stage.step begun.stage.late begun.stage.soon)

pub returns-in_err-put_on-clause-cause : goal.returns-in_err-put_on-clause-cause
returns-in_err-put_on-clause-cause g c = λ choice last ticks mesh begun.
    let put = line_put c.args.lan c.args.bytes c.args.self.now.clock in
    let p = err_from_is_err_and c.from_residual.result c.from_residual.ensures.1 in
    rw (p.1, p.2) (put_fails g.A.Algo.queries c.args.self.now.post c.args.self.now.sent last ticks mesh put c.in_err-put_on.field-0.0 begun.stage.step c.in_err-put_on.ensures.cause)
