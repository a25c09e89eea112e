-- Whatever its status, a run prints of tables and frames what is right.
use Rattle.std.proofs.Common.{ℕ, inl, inr, List, [], ◌++◌, length, take, drop, take-append-drop, Option, Some, None, IfSome, refl, sym, subst, append-nil, arith}
use Rattle.std.specs.Io.KnownBytes.{Appends, Keeps}
use Rattle.std.proofs.KnownBytes.{Appends-kept, Appends-nil}
use Rattle.std.proofs.lemmas.List.{take_all}
use Rattle.mesh_base.specs.Writes.{AppendsFront}
use Rattle.mesh_model.specs.declared.frame_choice.FrameChoice.{FrameChoice}
use Rattle.mesh_model.specs.declared.input_kind.InputKind.{InputKind}
use Rattle.mesh_model.specs.declared.input_kind.InputKind.TheVariants.{Scenario, Routes}
use Rattle.mesh_model.specs.Run.PlainRun.{after_lines, output, plain_run, start}
use Rattle.mesh_model.specs.Scenario.Lines.{complete_lines, lines_of}
use Rattle.mesh_lines.specs.TextLaws.{AreFirst, IsFrontOf}
use Rattle.mesh_lines.proofs.InputLines.{front_lines}
use Rattle.mesh_lines.proofs.TextLawLemmas.{texts_show_aliases, texts_show_commits, texts_show_right_frames}
use Rattle.mesh_tie.proofs.CutRuns.{runs_put_cuts_together}
use Rattle.mesh_tie.proofs.PictureRuns.{runs_show_pictures}
use Rattle.mesh_run.specs.Inner.Reading.{RunFails}
use Rattle.mesh_run.specs.Outcome.{Finishes, PrintsRightly, PrintsScenarioRightly, PrintsTaken}
use Rattle.mesh_run.specs.declared.fault.Fault.{Fault}
use Rattle.mesh_run.specs.declared.fault.Fault.TheVariants.{Halted, Read, Write, Memory}

-- ---- what is printed

whole_front : (old new : Option (List ℕ)) (bytes : List ℕ) → Appends old new bytes → AppendsFront old new bytes
whole_front old new bytes all = (length bytes, omega arith, subst (Appends old new) (sym (take_all (length bytes) bytes (omega arith))) all)

-- what is a front of what the first lines print is right
rightly : (choice : FrameChoice) (old new : Option (List ℕ)) (input : List ℕ) (lines : List (List ℕ)) (text : List ℕ) → AreFirst input lines → Appends old new text → IsFrontOf (after_lines (start choice) lines) text → PrintsScenarioRightly choice old new input
rightly choice old new input lines text first took front = record {
  lines = lines;
  first = first;
  text = text;
  took = took;
  front = front;
  tables = texts_show_commits choice input lines first text front;
  frames = texts_show_right_frames choice input lines first text front;
  aliases = texts_show_aliases choice input lines first text front;
  packets = runs_put_cuts_together choice lines;
  pictures = runs_show_pictures choice lines;
}

of_whole : (choice : FrameChoice) (old new : Option (List ℕ)) (input : List ℕ) → AppendsFront old new (output (plain_run choice input)) → PrintsScenarioRightly choice old new input
unfolding plain_run
of_whole choice old new input printed =
    let all = output (plain_run choice input) in
    rightly choice old new input (lines_of input) (take printed.0 all) (record { later = []; of_input = sym (append-nil (lines_of input)) }) printed.2
    (record { rest = drop printed.0 all; is = sym (take-append-drop printed.0 all) })

of_first : (choice : FrameChoice) (old new : Option (List ℕ)) (read more : List ℕ) → Appends old new (output (after_lines (start choice) (complete_lines read))) → PrintsScenarioRightly choice old new (read ++ more)
of_first choice old new read more printed =
    let first = front_lines read more in
    let all = output (after_lines (start choice) (complete_lines read)) in
    rightly choice old new (read ++ more) (complete_lines read) all (record { later = first.0; of_input = first.1 }) printed (record { rest = []; is = sym (append-nil all) })

of_none : (choice : FrameChoice) (old new : Option (List ℕ)) (input : List ℕ) → Keeps old new → PrintsScenarioRightly choice old new input
of_none choice old new input keeps =
    rightly choice old new input [] [] (record { later = lines_of input; of_input = refl }) (Appends-kept old old new [] (Appends-nil old) keeps) (record { rest = output (start choice); is = refl })

of_taken : (choice : FrameChoice) (old new first left : Option (List ℕ)) (input : List ℕ) → PrintsTaken (Scenario choice) old new first left input → PrintsScenarioRightly choice old new input
of_taken choice old new first left input (inl un) = of_none choice old new input un.unprinted
of_taken choice old new first None input (inr read) = absurd read.took
of_taken choice old new first (Some rest) input (inr read) = subst (PrintsScenarioRightly choice old new) (sym read.took) (of_first choice old new read.read rest read.printed)

rightly_failed : (choice : FrameChoice) (old new first left : Option (List ℕ)) (fault : Fault) (input : List ℕ) → RunFails (Scenario choice) old new first left fault input → PrintsScenarioRightly choice old new input
rightly_failed choice old new first left (Halted line stop) input h = of_whole choice old new input (whole_front old new (output (plain_run choice input)) h.printed)
rightly_failed choice old new first left Read input h = of_taken choice old new first left input h
rightly_failed choice old new first left Write input h = of_whole choice old new input (h.0, let low = h.1 in omega (arith, low), h.2)
rightly_failed choice old new first left Memory input h = of_whole choice old new input h

pub finished_rightly : (kind : InputKind) (named old new : Option (List ℕ)) → IfSome named (Finishes kind old new) → IfSome named (PrintsRightly kind old new)
finished_rightly kind None old new h = tt
finished_rightly (Scenario choice) (Some input) old new h = of_whole choice old new input (whole_front old new (output (plain_run choice input)) h.printed)
finished_rightly Routes (Some input) old new h = tt

pub failed_rightly : (kind : InputKind) (named old new first left : Option (List ℕ)) (fault : Fault) → IfSome named (RunFails kind old new first left fault) → IfSome named (PrintsRightly kind old new)
failed_rightly kind None old new first left fault h = tt
failed_rightly (Scenario choice) (Some input) old new first left fault h = rightly_failed choice old new first left fault input h
failed_rightly Routes (Some input) old new first left fault h = tt

kept_known : (known : Option (List ℕ)) → Keeps known known
kept_known None = tt
kept_known (Some bytes) = refl

-- nothing was printed
pub unprinted_rightly : (kind : InputKind) (named known : Option (List ℕ)) → IfSome named (PrintsRightly kind known known)
unprinted_rightly kind None known = tt
unprinted_rightly (Scenario choice) (Some input) known = of_none choice known known input (kept_known known)
unprinted_rightly Routes (Some input) known = tt
