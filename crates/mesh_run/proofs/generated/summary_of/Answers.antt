use Rattle.std.proofs.Common.{◌∙◌, ℕ, List, [], ◌++◌, Some, sym, subst, append-nil, arith}
use Rattle.mesh_model.specs.declared.frame_choice.FrameChoice.TheVariants.{Hidden}
use Rattle.mesh_model.specs.declared.input_kind.InputKind.TheVariants.{Scenario}
use Rattle.mesh_model.specs.Run.PlainRun.{after_lines, start}
use Rattle.mesh_scene.specs.Counts.{HasCounts}
use Rattle.mesh_run.specs.Inner.Progress.{Stands}
use Rattle.mesh_run.proofs.GeneratedLemmas.{generated-cause, summarized}
use Rattle.mesh_run.proofs.generated.summary_of.Goals as goal

pub returns-in-Err-clause-failed : goal.returns-in-Err-clause-failed
returns-in-Err-clause-failed c =
    let base = Some c.new-kept.result.text.items in
    let fails = c.in-Err.ensures.failed (Scenario Hidden) base [] (c.new_runner-runner.ensures.stands base) [] in
    let bytes = c.as_slice.result.now in
    rw c.kept_fault.ensures
    (generated-cause c.args.nodes 1 base (Some c.take_piece.new.out.text.items) c.in-Err.fault (([] ++ bytes) ++ []) (append-nil bytes ∙ c.as_slice.ensures.value ∙ c.in_ok-lines.ensures) fails)

pub summary_line-requires : goal.summary_line-requires
summary_line-requires c =
    let text = c.take_piece.new.out.text.items in
    let runner = c.take_piece.new.self in
    let Before : List ℕ → Type 0 = λ kept. Stands (Scenario Hidden) (Some []) (Some kept) c.new_runner-runner.result [] in
    let before = subst Before (sym c.new-kept.ensures) (c.new_runner-runner.ensures.stands (Some [])) in
    let stands = c.in_default.ensures.ok (Scenario Hidden) (Some []) [] before in
    let has = c.in_ok-counts.ensures Hidden (after_lines (start Hidden) stands.lines).state stands.at.scene_is in
    omega (arith, has.nodes_are, c.requires.some)

pub returns-clause-summary : goal.returns-clause-summary
returns-clause-summary c =
    let text = c.take_piece.new.out.text.items in
    let runner = c.take_piece.new.self in
    let Before : List ℕ → Type 0 = λ kept. Stands (Scenario Hidden) (Some []) (Some kept) c.new_runner-runner.result [] in
    let before = subst Before (sym c.new-kept.ensures) (c.new_runner-runner.ensures.stands (Some [])) in
    let After : List ℕ → Type 0 = λ input. Stands (Scenario Hidden) (Some []) (Some text) runner input in
    let stands = subst After (c.as_slice.ensures.value ∙ c.in_ok-lines.ensures) (c.in_default.ensures.ok (Scenario Hidden) (Some []) [] before) in
    let state = (after_lines (start Hidden) stands.lines).state in
    let Counted : List ℕ → Type 0 = λ printed. HasCounts c.args.nodes state printed c.in_ok-counts.counts in
    let has = subst Counted c.as_slice-2.ensures.value (c.in_ok-counts.ensures Hidden state stands.at.scene_is) in
    let counts = c.in_ok-counts.counts in
    summarized c.args.nodes text c.in_ok-line.line.items runner counts stands has c.in_ok-line.ensures
