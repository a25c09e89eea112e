use Rattle.std.proofs.Common.{◌≡◌, ◌∙◌, ◌↔◌, ◌<◌, ◌∷◌, ℕ, zero, suc, [], Bool, true, false, not, length, arith, sym, ap, refl}
use Rattle.std.specs.Bool.{IsTrue}
use Rattle.std.proofs.lemmas.Bool.{false≢true}
use Rattle.std.proofs.lemmas.List.{nil_from_length}
use Rattle.mesh_model.specs.Marks.Calls.{Released}
use Rattle.mesh_model.specs.Marks.RoamingMarks.{marks_by, next_marks}
use Rattle.tt_sync.specs.Sync.{Kept}
use Rattle.tt_sync.proofs.sync.Sync.has_marks.Goals as goal

is_true : (b : Bool) → not b ≡ false → IsTrue b
is_true true e = refl
is_true false e = cc

-- what isn't empty has something
has_some : (b : Bool) (n : ℕ) → (IsTrue b ↔ (n ≡ 0)) → IsTrue (not b) ↔ (0 < n)
has_some true n empty = let none = empty.0 refl in (λ t. absurd (false≢true t), λ some. absurd (omega (arith, none, some)))
has_some false zero empty = absurd (false≢true (empty.1 refl))
has_some false (suc n) empty = (λ _. omega arith, λ _. refl)

pub returns : goal.returns
returns c =
    let marks : c.self.inside.marks.entries ≡ c.args.self.now.marks = ap (λ (k : Kept). k.marks) c.self.view_is in record {
      has = λ made stands. rw (ap length (marks ∙ stands.marks)) at (has_some c.is_empty.result (length c.self.inside.marks.entries) c.is_empty.ensures);
      none = λ e made stands target byte.
          let none : c.args.self.now.marks ≡ [] = sym marks ∙ nil_from_length c.self.inside.marks.entries (c.is_empty.ensures.0 (is_true c.is_empty.result e)) in
          let after : marks_by (Released target byte ∷ made) ≡ [] = ap (next_marks (Released target byte)) (sym stands.marks ∙ none) in
          record { marks = none ∙ sym after; asked = stands.asked; sent = stands.sent };
    }
