use Rattle.std.proofs.Common.{rules, ◌≡◌, ◌-◌, ◌%◌, ◌*◌, ◌/◌, ◌<◌, ◌∙◌, vec_len, length, map, option_map, refl, ap, sym, subst, arith}
use Rattle.std.specs.Rc.{rc_slice_items}
use Rattle.std.proofs.lemmas.List.{length-map}
use Rattle.std.proofs.lemmas.Option.{slice_get-map, slice_get_read}
use Rattle.tt_local.specs.Journal.{HasTable, JournalStands, JournalView, PastCommit}
use Rattle.tt_local.specs.declared.journal.Past.{Past}
use Rattle.tt_local.proofs.NumberedLemmas.{kept_snapshot, snapshot_within}
use Rattle.tt_local.proofs.journal.Journal.kept_before.Goals as goal
use Rattle.tt_table.specs.Sums.{named_sums}

pub index-requires : goal.index-requires
index-requires c =
    let view : Past → PastCommit = λ p. record { changes = p.changes; sums = named_sums p.sums } in
    let long : length (map view c.self.inside.past.items) ≡ length c.args.self.now.past = ap (λ (v : JournalView). length v.past) c.self.view_is in
    let len_is : vec_len c.self.inside.snapshots ≡ length c.self.inside.snapshots.items = search rules in
    let within = snapshot_within c.args.number (length c.args.self.now.past) (length c.self.inside.past.items) (length c.self.inside.snapshots.items) _ c.requires.made
    (sym long ∙ length-map c.self.inside.past.items view) (length-map c.self.inside.snapshots.items rc_slice_items) c.self.invariant.0.count in
    subst (λ n. c.args.number / 32 < n) (sym len_is) within

pub returns : goal.returns
returns c =
    let items = c.self.inside.snapshots.items in
    let place = c.args.number / 32 in
    let view : Past → PastCommit = λ p. record { changes = p.changes; sums = named_sums p.sums } in
    let long : length (map view c.self.inside.past.items) ≡ length c.args.self.now.past = ap (λ (v : JournalView). length v.past) c.self.view_is in
    let within = snapshot_within c.args.number (length c.args.self.now.past) (length c.self.inside.past.items) (length items) _ c.requires.made
    (sym long ∙ length-map c.self.inside.past.items view) (length-map items rc_slice_items) c.self.invariant.0.count in
    let got = slice_get-map rc_slice_items items place ∙ ap (option_map rc_slice_items) (slice_get_read items _ place c.index.result.now refl within c.index.ensures) in
    let n = c.args.number in
    let at : 32 * place ≡ n - n % 32 = omega arith in
    record {
      table = λ history stands. subst (λ m. HasTable m (rc_slice_items c.index.result.now) history.commits) at
          (kept_snapshot _ history (subst (λ (v : JournalView). JournalStands v history) (sym c.self.view_is) stands) place (rc_slice_items c.index.result.now) got);
      ordered = c.self.invariant.0.ordered place (rc_slice_items c.index.result.now) got;
    }
