use Rattle.std.proofs.Common.{List, ℕ, ◌∙◌, append-nil, arith, subst, sym}
use Rattle.std.specs.Io.KnownBytes.{Appends}
use Rattle.mesh_model.specs.declared.line_form.Command.TheVariants.{Algo}
use Rattle.mesh_model.specs.Run.Rules.{setup_of}
use Rattle.mesh_model.specs.Run.State.{text_of}
use Rattle.mesh_laws.proofs.Lines.Printing.{grows}
use Rattle.mesh_scene.specs.StageStands.{outcome_on_stage}
use Rattle.mesh_run.proofs.FaultLemmas.{line_blameless, line_fails}
use Rattle.mesh_run.proofs.line.choose.Goals as goal

pub returns-in-Err-clause-line : goal.returns-in-Err-clause-line
returns-in-Err-clause-line c = λ taken base state at. rw c.at.ensures
    (line_fails base taken state (outcome_on_stage (Algo c.args.algorithm) state) c.args.number c.in-Err.fault (grows (setup_of state.algorithm) state (Algo c.args.algorithm))
    at.printed (c.in-Err.ensures.answers state at.scene_is))

pub returns-in-Err-clause-faults : goal.returns-in-Err-clause-faults
returns-in-Err-clause-faults c = λ count. record { kept = omega arith; cause = rw c.at.ensures (line_blameless _ _ c.args.number c.in-Err.fault) }

pub returns-clause-line : goal.returns-clause-line
returns-clause-line c = λ taken base state at.
    let carries = c.in_default.ensures.answers state at.scene_is in
    let T : List ℕ → Type 0 = λ text. Appends base taken text in
    record {
      after = carries.after;
      carried = carries.carried;
      standing = record { scene_is = carries.standing; printed = subst T (sym (carries.text ∙ append-nil (text_of state))) at.printed };
    }

pub returns-clause-somewhere : goal.returns-clause-somewhere
returns-clause-somewhere c =
    let at = c.requires.somewhere in
    let carries = c.in_default.ensures.answers at.state at.standing in
    record { state = carries.after; standing = carries.standing }
