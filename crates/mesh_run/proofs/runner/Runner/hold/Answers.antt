use Rattle.std.proofs.Common.{arith, refl, rules}
use Rattle.mesh_laws.proofs.CutLemmas.{IsCut-more}
use Rattle.mesh_run.proofs.ProgressLemmas.{front-cut, halts-hold, Stands-more}
use Rattle.mesh_run.proofs.runner.Runner.hold.Goals as goal

pub returns-then-text-len-clause-failed : goal.returns-then-text-len-clause-failed
returns-then-text-len-clause-failed c = λ now unbroken kind base read stands.
    let runner = c.args.self.now in
    let counted = runner.line.ok.0 in
    rw c.halted.ensures (λ more.
    halts-hold kind base now runner read c.args.text.now unbroken stands (omega (arith, counted, runner.short))
    (omega (arith, counted, runner.short, c.if-text-len.true, c.len.ensures)) c.requires.within more)

pub returns-then-is_err-clause-failed : goal.returns-then-is_err-clause-failed
returns-then-is_err-clause-failed c = λ now unbroken kind base read stands more.
    front-cut kind base now _ stands.lines _ more (IsCut-more _ _ _ _ stands.cut unbroken) stands.at.printed

pub returns-clause-ok : goal.returns-clause-ok
returns-clause-ok c = λ now unbroken kind base read stands.
    Stands-more kind base now c.args.self.now _ read c.args.text.now unbroken stands (search (rules, c.if-is_err.ensures)) refl refl refl
