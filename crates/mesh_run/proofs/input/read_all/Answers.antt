use Rattle.std.proofs.Common.{[], ◌++◌, take, arith, rules}
use Rattle.std.proofs.KnownBytes.{Consumes-kept, Consumes-nil, Consumes-trans}
use Rattle.std.proofs.lemmas.Result.{err_from_is_err_and}
use Rattle.mesh_run.proofs.ReadLemmas.{Consumes-none, PrintsRead-from, ReadFails-end, ReadFails-piece}
use Rattle.mesh_run.proofs.input.read_all.Goals as goal

pub returns-in-Err-clause-failed : goal.returns-in-Err-clause-failed
returns-in-Err-clause-failed g c = λ kind base stands.
    let loop = c.pieces.invariant in
    let left = g.I.Intake.left c.pieces.intake in
    PrintsRead-from kind (g.I.Intake.left c.args.intake.now) (g.I.Intake.left c.read.new.self) base (g.K.Sink.taken c.pieces.out) c.pieces.runner loop.read
    (Consumes-kept (g.I.Intake.left c.args.intake.now) left (g.I.Intake.left c.read.new.self) loop.read loop.took c.in-Err.ensures.bytes) (loop.stands kind base stands)
    (omega (arith, c.pieces.runner.line.ok.0, c.pieces.runner.short)) c.pieces.runner.within

pub pieces-init : goal.pieces-init
pieces-init g c = record {
  read = [];
  took = Consumes-nil (g.I.Intake.left c.args.intake.now);
  stands = λ kind base stands. stands;
  ready = c.requires.ready;
  reads = omega arith;
  writes = omega arith;
}

pub pieces-preserved : goal.pieces-preserved
pieces-preserved g c =
    let loop = c.pieces.invariant in
    let piece = take c.in-Ok.count c.read.new.buf in
    record {
      read = loop.read ++ piece;
      took = Consumes-trans (g.I.Intake.left c.args.intake.now) (g.I.Intake.left c.pieces.intake) (g.I.Intake.left c.read.new.self) loop.read piece loop.took c.in-Ok.ensures.bytes.0;
      stands = λ kind base stands. c.in_ok-take_piece.ensures.ok kind base loop.read (loop.stands kind base stands);
      ready = c.in_ok-take_piece.ensures.ready;
      reads = omega (arith, loop.reads, c.in-Ok.ensures.count);
      writes = omega (arith, loop.writes, c.in_ok-take_piece.ensures.faults.kept);
    }

pub returns-in_err-take_piece-clause-failed : goal.returns-in_err-take_piece-clause-failed
returns-in_err-take_piece-clause-failed g c = λ kind base stands.
    let p = err_from_is_err_and c.from_residual.result c.from_residual.ensures.1 in
    let loop = c.pieces.invariant in
    let piece = take c.in-Ok.count c.read.new.buf in
    rw (p.1, p.2)
    (ReadFails-piece kind (g.I.Intake.left c.args.intake.now) (g.I.Intake.left c.read.new.self) base (g.K.Sink.taken c.take_piece.new.out) loop.read piece c.in_err-take_piece.field-0.0
    (Consumes-trans (g.I.Intake.left c.args.intake.now) (g.I.Intake.left c.pieces.intake) (g.I.Intake.left c.read.new.self) loop.read piece loop.took c.in-Ok.ensures.bytes.0)
    (search rules)
    (c.in_err-take_piece.ensures.failed kind base loop.read (loop.stands kind base stands)))

pub returns-in_err-finish-clause-failed : goal.returns-in_err-finish-clause-failed
returns-in_err-finish-clause-failed g c = λ kind base stands.
    let p = err_from_is_err_and c.from_residual-in_err-finish.result c.from_residual-in_err-finish.ensures.1 in
    let loop = c.pieces.invariant in
    let first = g.I.Intake.left c.args.intake.now in
    let left = g.I.Intake.left c.read.new.self in
    rw (p.1, p.2)
    (ReadFails-end kind first left base (g.K.Sink.taken c.finish.new.out) loop.read c.in_err-finish.field-0.0
    (Consumes-none first (g.I.Intake.left c.pieces.intake) left loop.read c.read.new.buf c.in-Ok.count c.if-count-eq0.true loop.took c.in-Ok.ensures.bytes.0)
    (c.in-Ok.ensures.bytes.1 c.if-count-eq0.true (search rules))
    (c.in_err-finish.ensures.failed kind base loop.read (loop.stands kind base stands)))

pub returns-clause-ok : goal.returns-clause-ok
returns-clause-ok g c = λ kind base stands.
    let loop = c.pieces.invariant in
    let first = g.I.Intake.left c.args.intake.now in
    let left = g.I.Intake.left c.read.new.self in
    record {
      read = loop.read;
      took = Consumes-none first (g.I.Intake.left c.pieces.intake) left loop.read c.read.new.buf c.in-Ok.count c.if-count-eq0.true loop.took c.in-Ok.ensures.bytes.0;
      at_end = c.in-Ok.ensures.bytes.1 c.if-count-eq0.true (search rules);
      finished = c.in_ok-finish.ensures.ok kind base loop.read (loop.stands kind base stands);
    }
