use Rattle.std.proofs.Common.{◌∙◌, ap, sym}
use Rattle.std.specs.List.{list_any}
use Rattle.std.specs.Map.{keys_of}
use Rattle.std.proofs.lemmas.Bool.{true≢false}
use Rattle.std.proofs.lemmas.List.{take_all}
use Rattle.mesh_model.specs.Loops.Routes.{same_pair}
use Rattle.mesh_loops.specs.Watch.{Kept}
use Rattle.mesh_loops.proofs.PairLemmas.{strictly_sorted}
use Rattle.mesh_loops.proofs.PassedLemmas.{changed_is_set, noted_sorted, passed_further}
use Rattle.mesh_loops.proofs.watch.Watch.heads.Goals.{then-has_changed+in_ok-follow, else-has_changed}
use Rattle.mesh_loops.proofs.watch.Watch.heads.Goals as goal

pub loop-pair-preserved : goal.loop-pair-preserved
loop-pair-preserved c =
    let kept = c.args.self.now in
    let pairs = c.as_slice-pair-items.result.now in
    let before = c.loop-pair.heads.keys in
    elim c.if-has_changed.branch [
      | then-has_changed+in_ok-follow w ↦ rw (w.seen-is, w.heads-is) record {
        seen = λ are_kept. w.in_ok-follow.ensures.all are_kept (c.loop-pair.invariant.seen are_kept);
        passed = λ are_kept. passed_further kept c.args.when before w.follow.new.heads.keys pairs c.loop-pair.pair-index _ c.loop-pair-test.true w.in_ok-follow.ensures.kept
            (c.loop-pair.invariant.passed are_kept) (λ changed. w.in_ok-follow.ensures.noted are_kept (c.loop-pair.invariant.seen are_kept));
      }
      | else-has_changed w ↦ rw (w.seen-is, w.heads-is) record {
        seen = c.loop-pair.invariant.seen;
        passed = λ are_kept. passed_further kept c.args.when before before pairs c.loop-pair.pair-index _ c.loop-pair-test.true (λ pair among. among)
            (c.loop-pair.invariant.passed are_kept) (λ changed. absurd (true≢false (sym changed ∙ sym c.has_changed.ensures ∙ w.if-has_changed.false)));
      }
    ]

pub returns-clause-ordered : goal.returns-clause-ordered
returns-clause-ordered c = strictly_sorted c.sort.new.self.keys c.in_ok-sort.ensures.sorted c.in_ok-sort.ensures.unique

pub returns-clause-noted : goal.returns-clause-noted
returns-clause-noted c =
    λ are_kept pair changed.
    let kept = c.args.self.now in
    let pairs = c.as_slice-pair-items.result.now in
    let before = c.loop-pair.heads.keys in
    noted_sorted kept c.args.when before c.sort.new.self.keys pair c.in_ok-sort.ensures.reordered.0
    (c.loop-pair.invariant.passed are_kept pair
    (ap (list_any (same_pair pair)) (take_all c.loop-pair.pair-index pairs c.loop-pair-test.false ∙ c.as_slice-pair-items.ensures ∙ c.keys.ensures.rest ∙ ap (λ (k : Kept). keys_of k.before) c.self.view_is) ∙ changed_is_set kept pair changed) changed)
