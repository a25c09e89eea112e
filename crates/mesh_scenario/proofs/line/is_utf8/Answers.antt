use Rattle.std.proofs.Common.{Result, Ok, Err, MatchResult, Decides, refl, ◌∙◌}
use Rattle.std.specs.Prelude.{is_ok}
use Rattle.std.specs.Str.{is_utf8}
use Rattle.std.proofs.lemmas.Bool.Decides.{same_from_decides}
use Rattle.std.proofs.lemmas.Str.{IsUtf8-from_is_utf8, is_utf8-from_IsUtf8}
use Rattle.mesh_scenario.proofs.line.is_utf8.Goals as goal

-- an answer that comes exactly where a fact holds
Decides-is_ok : {T E : Type 0} (r : Result T E) (U : Type 0) (P : T → Type 0) (Q : E → Type 0)
    → MatchResult r (λ x. P x × U) (λ e. (U → ⊥) × Q e) → Decides (is_ok r) U
Decides-is_ok (Ok x) U P Q cases = (λ _. cases.1, λ _. refl)
Decides-is_ok (Err e) U P Q cases = (λ same. cc, λ holds. absurd (cases.0 holds))

pub returns : goal.returns
returns c =
    let bytes = c.args.bytes.now in
    c.is_ok.ensures.value ∙ same_from_decides _ (is_utf8 bytes)
    (Decides-is_ok c.from_utf8.result _ _ _ c.from_utf8.ensures.cases)
    (IsUtf8-from_is_utf8 bytes, is_utf8-from_IsUtf8 bytes)
