use Rattle.std.proofs.Common.{arith, ℕ, List, sym, subst}
use Rattle.std.specs.Io.KnownBytes.{Appends}
use Rattle.mesh_model.specs.Net.Limits.{scenario_setup}
use Rattle.mesh_model.specs.Run.Outcome.{Outcome, reached}
use Rattle.mesh_model.specs.Run.Rules.{carried_out}
use Rattle.mesh_model.specs.Run.State.{text_of}
use Rattle.mesh_laws.proofs.Lines.Printing.{grows}
use Rattle.mesh_run.specs.Outcome.{AppendsLess}
use Rattle.mesh_run.proofs.FrontLemmas.{appends-after, less-after}
use Rattle.mesh_run.proofs.FaultLemmas.{line_blameless, line_fails}
use Rattle.mesh_run.proofs.line.carry_whole.Goals as goal

pub returns-in-Err-clause-line : goal.returns-in-Err-clause-line
returns-in-Err-clause-line g c = λ base state stands. rw c.at.ensures
    (line_fails base (g.K.Sink.taken c.args.out.now) state (carried_out (scenario_setup g.A.Algo.queries) state c.args.command) c.args.number c.in-Err.fault (grows (scenario_setup g.A.Algo.queries) state c.args.command)
    stands.printed (c.in-Err.ensures state stands.scene_is))

pub returns-in-Err-clause-faults : goal.returns-in-Err-clause-faults
returns-in-Err-clause-faults g c = record { kept = omega arith; cause = rw c.at.ensures (line_blameless _ _ c.args.number c.in-Err.fault) }

pub returns-in-Err-put_text-clause-line : goal.returns-in-Err-put_text-clause-line
returns-in-Err-put_text-clause-line g c = λ base state stands.
    let old = g.K.Sink.taken c.args.out.now in
    let new = g.K.Sink.taken c.put_text.new.sink in
    let L : List ℕ → Type 0 = λ text. AppendsLess old new text in
    let carries = c.in_default.ensures state stands.scene_is in
    let less = less-after base old new (text_of state) c.carry_out.new.text.items (text_of carries.after) stands.printed
    (subst L c.as_slice.ensures.value c.in-Err-put_text.ensures.less) carries.text in
    let P : Outcome → Type 0 = λ o. AppendsLess base new (text_of (reached o)) in
    subst P (sym carries.carried) less

pub returns-clause-line : goal.returns-clause-line
returns-clause-line g c = λ base state stands.
    let old = g.K.Sink.taken c.args.out.now in
    let new = g.K.Sink.taken c.put_text.new.sink in
    let T : List ℕ → Type 0 = λ text. Appends old new text in
    let carries = c.in_default.ensures state stands.scene_is in
    record {
      after = carries.after;
      carried = carries.carried;
      standing = record {
        scene_is = carries.standing;
        printed = appends-after base old new (text_of state) c.carry_out.new.text.items (text_of carries.after) stands.printed
            (subst T c.as_slice.ensures.value c.in_default-put_text.ensures.whole) carries.text;
      };
    }
