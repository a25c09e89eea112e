-- The laws of the text that a run prints.
use Rattle.std.proofs.Common.{ℕ, List, ap, subst, ◌∙◌}
use Rattle.std.specs.Prelude.{flat_map}
use Rattle.mesh_model.specs.Run.PlainRun.{after_lines, start}
use Rattle.mesh_model.specs.Run.State.{printed_text}
use Rattle.mesh_model.specs.Scenario.Lines.{lines_of}
use Rattle.mesh_lines.specs.PlainLines.{PlainContents}
use Rattle.mesh_lines.specs.TextLaws.{AreFirst, PrintedIsPlain, TextsAreLines, TextsShowAliases, TextsShowCommits, TextsShowRightFrames}
use Rattle.mesh_lines.proofs.AliasTextLemmas.{alias_lines_are_right}
use Rattle.mesh_lines.proofs.FrameTextLemmas.{table_frames_are_right}
use Rattle.mesh_lines.proofs.InputLines.{input_lines_are_plain, plain_front}
use Rattle.mesh_lines.proofs.ItemLemmas.{lines_of_text}
use Rattle.mesh_lines.proofs.NameLemmas.{runs_are_named}
use Rattle.mesh_lines.proofs.TableTextLemmas.{choice_stays, ok_lines_are_committed, printed_plain, texts_plain}

first_plain : (input : List ℕ) (lines : List (List ℕ)) → AreFirst input lines → PlainContents lines
first_plain input lines f = plain_front lines f.later (subst PlainContents f.of_input (input_lines_are_plain input))

pub printed_is_plain : PrintedIsPlain
printed_is_plain choice input lines f = let n = runs_are_named choice lines (first_plain input lines f) in printed_plain choice lines n (texts_plain choice lines n)

pub texts_are_lines : TextsAreLines
texts_are_lines choice input lines f =
    let state = (after_lines (start choice) lines).state in
    ap (λ c. lines_of (flat_map (printed_text c) state.printed)) (choice_stays choice lines) ∙ lines_of_text choice state.printed (printed_is_plain choice input lines f)

pub texts_show_commits : TextsShowCommits
texts_show_commits choice input lines f text front = ok_lines_are_committed choice lines text (first_plain input lines f) front

pub texts_show_right_frames : TextsShowRightFrames
texts_show_right_frames choice input lines f text front = table_frames_are_right choice lines text (first_plain input lines f) front

pub texts_show_aliases : TextsShowAliases
texts_show_aliases choice input lines f text front = alias_lines_are_right choice lines text (first_plain input lines f) front
