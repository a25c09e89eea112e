use Rattle.mesh_net.proofs.Slices.{slice_goes_on, slice_ends}
use Rattle.mesh_net.proofs.net.Net.run_slice.Goals as goal

pub returns-then-is_due-clause-ran : goal.returns-then-is_due-clause-ran
returns-then-is_due-clause-ran g c = λ choice clock mesh s.
    slice_goes_on g.A.Algo.queries g.A.Algo.stands c.step_often.new.self choice clock mesh c.args.t c.args.most c.args.log.now c.step_often.new.log c.requires.soon
    (c.in_ok-step_often.ensures.went choice clock mesh s) (c.is_due.ensures.due c.if-is_due.true)

pub returns-clause-ran : goal.returns-clause-ran
returns-clause-ran g c = λ choice clock mesh s.
    slice_ends g.A.Algo.queries g.A.Algo.stands c.step_often.new.self choice clock mesh c.args.t c.args.most c.args.log.now c.step_often.new.log c.requires.soon
    (c.in_ok-step_often.ensures.went choice clock mesh s) (c.is_due.ensures.none c.if-is_due.false)
