use Rattle.std.proofs.Common.{rules, ◌≡◌, ◌∙◌, ◌+◌, ◌++◌, [], ◌∷◌, None, length, map, refl, sym, ap, ap₂, arith}
use Rattle.std.specs.Rc.{rc_slice_items}
use Rattle.std.proofs.lemmas.List.{map-append}
use Rattle.mesh_model.specs.Tables.Changes.{deletion}
use Rattle.mesh_model.specs.Tables.Sums.{sums_of}
use Rattle.tt_local.specs.Journal.{JournalView, with_snapshot}
use Rattle.tt_local.proofs.JournalLemmas.{emptied, emptying}
use Rattle.tt_local.proofs.NumberedLemmas.{past_counted, past_view, snapshots_pushed, snapshots_stay, with_option}
use Rattle.tt_local.proofs.journal.Journal.restart.Goals as goal
use Rattle.tt_local.proofs.journal.Journal.restart.Goals.{in-Some, in_default}
use Rattle.tt_table.specs.Sums.{named_sums}

pub invariant_of-self-3 : goal.invariant_of-self-3
invariant_of-self-3 c =
    let before = c.self.inside in
    let after = c.match-snapshot-8.self-inside in
    let counted = past_counted before.past.items c.args.self.now (ap (λ (v : JournalView). v.past) c.self.view_is) in
    let more : length after.past.items ≡ length before.past.items + 1 = search rules in
    let pushed : after.snapshots.items ≡ with_option c.in_ok-snapshot.snapshot before.snapshots.items = elim c.match-snapshot-8.branch [
      | in-Some w ↦ (let is : after.snapshots.items ≡ before.snapshots.items ++ w.in-Some.snapshot ∷ [] = search rules in is ∙ ap (λ o. with_option o before.snapshots.items) (sym w.in-Some.is))
      | in_default w ↦ (let is : after.snapshots.items ≡ before.snapshots.items = search rules in let none : c.in_ok-snapshot.snapshot ≡ None = search rules in is ∙ ap (λ o. with_option o before.snapshots.items) (sym none))
    ] in
    let last : c.len-self-inside.result ≡ length after.past.items = search rules in (
      snapshots_stay rc_slice_items c.in_ok-snapshot.snapshot before.snapshots.items after.snapshots.items (length c.args.self.now.past) (length before.past.items) (length after.past.items) c.args.self.now.table
          c.self.invariant.0 counted more c.in_ok-snapshot.ensures.ordered pushed c.in_ok-snapshot.ensures.kept,
      omega (arith, last),
    )

pub returns-clause-committed : goal.returns-clause-committed
returns-clause-committed c =
    let old = c.args.self.now in
    let after = c.match-snapshot-8.self-inside in
    let ordered = c.in_ok-snapshot.ensures.ordered in
    let before = c.self.inside in
    let sums : named_sums c.in_ok-sums.sums ≡ sums_of old.table = c.in_ok-sums.ensures.named ∙ c.sums.ensures ∙ ap (λ (v : JournalView). sums_of v.table) c.self.view_is in
    let items : after.past.items ≡ before.past.items ++ record { changes = before.changes; sums = c.in_ok-sums.sums } ∷ [] = search rules in
    let past : map past_view after.past.items ≡ old.past ++ record { changes = old.changes; sums = sums_of old.table } ∷ [] =
    ap (map past_view) items ∙ map-append past_view before.past.items (record { changes = before.changes; sums = c.in_ok-sums.sums } ∷ [])
    ∙ ap₂ (λ (v : JournalView) s. v.past ++ record { changes = v.changes; sums = s } ∷ []) c.self.view_is sums in
    let pushed : after.snapshots.items ≡ with_option c.in_ok-snapshot.snapshot before.snapshots.items = elim c.match-snapshot-8.branch [
      | in-Some w ↦ (let is : after.snapshots.items ≡ before.snapshots.items ++ w.in-Some.snapshot ∷ [] = search rules in is ∙ ap (λ o. with_option o before.snapshots.items) (sym w.in-Some.is))
      | in_default w ↦ (let is : after.snapshots.items ≡ before.snapshots.items = search rules in let none : c.in_ok-snapshot.snapshot ≡ None = search rules in is ∙ ap (λ o. with_option o before.snapshots.items) (sym none))
    ] in
    let empty : after.table.entries ≡ [] = search rules in
    let table = c.as_slice.ensures ∙ ap (λ (v : JournalView). v.table) c.self.view_is in
    let deleted : c.push_all.new.changes ≡ map deletion old.table = c.in_ok-push_all.ensures ∙ ap₂ (λ cs es. cs ++ map deletion es) c.new-deletions.ensures table in
    let kept : after.changes ≡ c.push_all.new.changes = search rules in
    let made : after.changes ≡ map deletion old.table = kept ∙ deleted in
    record {
      table = emptied old.table after.table.entries ordered empty;
      changes_are = made ∙ sym (emptying old.table);
      past = past;
      snapshots = snapshots_pushed rc_slice_items c.in_ok-snapshot.snapshot before.snapshots.items after.snapshots.items (length old.past) old.table pushed c.in_ok-snapshot.ensures.kept
          ∙ ap (λ (v : JournalView). with_snapshot (length old.past) old.table v.snapshots) c.self.view_is;
      sent = refl;
    }

pub returns-clause-twin : goal.returns-clause-twin
returns-clause-twin c = record { twin = c.in_ok-twin.twin; twins = search rules; twin_is = c.in_ok-twin.ensures }
