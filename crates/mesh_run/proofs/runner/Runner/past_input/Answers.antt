use Rattle.std.proofs.Common.{arith, inl, inr}
use Rattle.mesh_run.proofs.EndLemmas.{eqb-from_other, halts-past_input, halts-past_line}
use Rattle.mesh_run.proofs.runner.Runner.past_input.Goals as goal

pub returns-then-byte-eq10-clause-failed : goal.returns-then-byte-eq10-clause-failed
returns-then-byte-eq10-clause-failed c = λ kind base now read stands.
    let runner = c.args.self.now in
    rw c.halted.ensures
    (halts-past_input kind base now runner read c.args.byte stands c.requires.full (omega (arith, runner.line.ok.0, runner.short)) (inr c.if-byte-eq10.true))

pub returns-then-len-lt-LINE_LIMIT-clause-failed : goal.returns-then-len-lt-LINE_LIMIT-clause-failed
returns-then-len-lt-LINE_LIMIT-clause-failed c = λ kind base now read stands.
    let runner = c.args.self.now in
    let h = c.if-len-lt-LINE_LIMIT.true in
    rw c.halted-then-len-lt-LINE_LIMIT.ensures
    (halts-past_input kind base now runner read c.args.byte stands c.requires.full (omega (arith, runner.line.ok.0, runner.short))
    (inl (omega (arith, runner.line.ok.0, c.len.ensures, h))))

pub returns-clause-failed : goal.returns-clause-failed
returns-clause-failed c = λ kind base now read stands.
    let runner = c.args.self.now in
    let h = c.if-len-lt-LINE_LIMIT.false in
    rw c.halted-2.ensures (halts-past_line kind base now runner read c.args.byte stands c.requires.full
    (omega (arith, runner.line.ok.0, c.len.ensures, h, runner.short)) (eqb-from_other c.args.byte 10 c.if-byte-eq10.false))
