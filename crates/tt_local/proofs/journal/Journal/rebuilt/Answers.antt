use Rattle.std.proofs.Common.{◌≡◌, ◌+◌, ◌<◌, ◌∙◌, length, map, option_map, refl, ap, sym, subst, arith}
use Rattle.std.proofs.lemmas.List.{length-map}
use Rattle.std.proofs.lemmas.Option.{slice_get-map, slice_get_read}
use Rattle.tt_local.specs.Journal.{HasTable, JournalStands, JournalView, PastCommit}
use Rattle.tt_local.specs.declared.journal.Past.{Past}
use Rattle.tt_local.proofs.NumberedLemmas.{kept_leads}
use Rattle.tt_local.proofs.journal.Journal.rebuilt.Goals as goal
use Rattle.tt_table.specs.Sums.{named_sums}

pub loop-at-preserved : goal.loop-at-preserved
loop-at-preserved c = record {
  rebuilt = λ history stands has.
      let view : Past → PastCommit = λ p. record { changes = p.changes; sums = named_sums p.sums } in
      let items = c.self.inside.past.items in
      let place = c.loop-at.at + 1 in
      let long : length (map view items) ≡ length c.args.self.now.past = ap (λ (v : JournalView). length v.past) c.self.view_is in
      let as_long = length-map items view in
      let test = c.loop-at-test.true in
      let made = c.requires.made in
      let within : place < length items = omega (arith, long, as_long, test, made) in
      let got = slice_get_read items _ place c.index.result.now refl within c.index.ensures in
      let led = kept_leads _ history (subst (λ (v : JournalView). JournalStands v history) (sym c.self.view_is) stands) c.loop-at.at place (omega arith) (view c.index.result.now)
      (slice_get-map view items place ∙ ap (option_map view) got) c.loop-at.entries.entries (c.loop-at.invariant.rebuilt history stands has) in
      subst (λ t. HasTable place t history.commits) (sym (c.in_ok-change.ensures led.0 led.2)) led.1;
}

pub returns : goal.returns
returns c = λ history stands has.
    let test = c.loop-at-test.false in
    let upto = c.loop-at.auto.at-end c.requires.earlier in
    let at : c.loop-at.at ≡ c.args.number = omega (arith, test, upto) in
    subst (λ t. HasTable c.args.number t history.commits) (sym (c.in_ok-table.ensures ∙ c.into_vec.ensures))
    (subst (λ n. HasTable n c.loop-at.entries.entries history.commits) at (c.loop-at.invariant.rebuilt history stands has))
