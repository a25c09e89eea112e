use Rattle.std.proofs.Common.{arith}
use Rattle.mesh_iv.proofs.QualityLemmas.{value_fits, value_none, value_some}
use Rattle.mesh_iv.proofs.quality.transmit_quality.Goals as goal

pub returns-then-receive-eq0 : goal.returns-then-receive-eq0
returns-then-receive-eq0 c = value_none c.args.tq c.args.echo c.args.receive c.if-receive-eq0.true

pub overflow_cast-result : goal.overflow_cast-result
overflow_cast-result c =
    rw (c.from.ensures, c.from-full.ensures, c.min.ensures) (let fits = value_fits c.args.tq c.args.echo c.args.receive c.if-receive-eq0.false (omega arith) in omega (arith, fits))

pub returns : goal.returns
returns c =
    rw (c.from.ensures, c.from-full.ensures, c.min.ensures) (value_some c.args.tq c.args.echo c.args.receive c.if-receive-eq0.false)
