use Rattle.std.proofs.Common.{rules, ◌≡◌, ◌∙◌, ◌+◌, ◌≤◌, ◌++◌, [], ◌∷◌, None, length, sym, ap, arith}
use Rattle.std.specs.Rc.{rc_slice_items}
use Rattle.tt_local.specs.Journal.{JournalView}
use Rattle.tt_local.proofs.NumberedLemmas.{past_counted, snapshots_stay, with_option}
use Rattle.tt_local.proofs.journal.Journal.commit.Goals as goal
use Rattle.tt_local.proofs.journal.Journal.commit.Goals.{in-Some, in_default}

pub invariant_of-self-2 : goal.invariant_of-self-2
invariant_of-self-2 g c =
    let before = c.self.inside in
    let after = c.match-snapshot-7.self-inside in
    let counted = past_counted before.past.items c.args.self.now (ap (λ (v : JournalView). v.past) c.self.view_is) in
    let more : length after.past.items ≡ length before.past.items + 1 = search rules in
    let pushed : after.snapshots.items ≡ with_option c.in_ok-snapshot.snapshot before.snapshots.items = elim c.match-snapshot-7.branch [
      | in-Some w ↦ (let is : after.snapshots.items ≡ before.snapshots.items ++ w.in-Some.snapshot ∷ [] = search rules in is ∙ ap (λ o. with_option o before.snapshots.items) (sym w.in-Some.is))
      | in_default w ↦ (let is : after.snapshots.items ≡ before.snapshots.items = search rules in let none : c.in_ok-snapshot.snapshot ≡ None = search rules in is ∙ ap (λ o. with_option o before.snapshots.items) (sym none))
    ] in
    let begun : before.start ≤ length before.past.items = c.self.invariant.1 in
    let same : after.start ≡ before.start = search rules in (
      snapshots_stay rc_slice_items c.in_ok-snapshot.snapshot before.snapshots.items after.snapshots.items (length c.args.self.now.past) (length before.past.items) (length after.past.items) c.args.self.now.table
          c.self.invariant.0 counted more c.in_ok-snapshot.ensures.ordered pushed c.in_ok-snapshot.ensures.kept,
      omega (arith, begun, same, more),
    )

pub returns-clause-twin : goal.returns-clause-twin
returns-clause-twin g c = record { twin = c.in_ok-twin.twin; twins = search rules; twin_is = c.in_ok-twin.ensures }
