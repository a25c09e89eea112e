use Rattle.std.proofs.Common.{rules, tests, ◌∙◌, ◌≡◌, ◌<◌, ℕ, length, get_or, ap, sym, refl}
use Rattle.std.proofs.lemmas.Bool.{false≢true}
use Rattle.tt_table.specs.declared.vlan_total.VlanTotal.{VlanTotal}
use Rattle.tt_table.proofs.DifferenceLemmas.{same_named, same_rows}
use Rattle.tt_table.proofs.sums.Sums.is_same.Goals as goal
use Rattle.tt_table.proofs.sums.Sums.is_same.Goals.{then-ne-via-then-ne, then-ne-via-else-ne+then-row-other}

pub returns-then-ne : goal.returns-then-ne
returns-then-ne c = (
  λ t. absurd (false≢true t),
  λ same.
      let d : VlanTotal = record { vid = record { 0 = 0 }; sum = 0; entries = 0 } in
      let within : c.loop-place.place < length c.args.self.now.rows = search rules in
      let mine : get_or c.args.self.now.rows c.loop-place.place d ≡ get_or c.deref-row-items.result.now c.loop-place.place d = search rules in
      let other : c.index-other.result.now ≡ get_or c.args.others.now.rows c.loop-place.place c.index-other.result.now = search rules in
      let alike = same_rows c.args.self.now.rows c.args.others.now.rows same c.loop-place.place d c.index-other.result.now within in
      let vids : (get_or c.deref-row-items.result.now c.loop-place.place d).vid.0 ≡ c.index-other.result.now.vid.0 = ap (λ r. r.vid.0) (sym mine) ∙ ap (λ r. r.vid.0) alike ∙ ap (λ r. r.vid.0) (sym other) in
      let sums : (get_or c.deref-row-items.result.now c.loop-place.place d).sum ≡ c.index-other.result.now.sum = ap (λ r. r.sum) (sym mine) ∙ ap (λ r. r.sum) alike ∙ ap (λ r. r.sum) (sym other) in
      elim c.then-ne.branch [
        | then-ne-via-then-ne w ↦ search (rules, tests, vids)
        | then-ne-via-else-ne+then-row-other w ↦ search (rules, tests, sums)
      ],
)

pub returns : goal.returns
returns c = (
  λ t.
      let counted : length c.args.self.now.rows ≡ length c.args.others.now.rows = search rules in
      let past : (i : ℕ) → i < length c.args.self.now.rows → i < c.loop-place.place = search rules in
      same_named c.args.self.now.rows c.args.others.now.rows counted (λ i d lt. c.loop-place.invariant.same i d (past i lt)),
  λ same. refl,
)
