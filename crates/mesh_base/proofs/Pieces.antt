-- One more piece of a list: what was written or given so far, and the next piece of the rest.
use Rattle.std.proofs.Common.{ℕ, ◌≡◌, ◌+◌, ◌-◌, ◌<◌, min, List, [], ◌++◌, length, take, drop, Option, subst, sym, ap, ◌∙◌, arith}
use Rattle.std.proofs.Math.Seq.{take-add}
use Rattle.std.proofs.lemmas.List.{take_rest, nil_from_length, length-drop, drop-drop, take-append-drop}
use Rattle.std.proofs.KnownBytes.{Appends-trans}
use Rattle.std.specs.Io.KnownBytes.{Appends}

pub Appends-next : (a b c : Option (List ℕ)) (bs : List ℕ) (i n : ℕ) → Appends a b (take i bs)
    → Appends b c (take n (take (length bs - i) (drop i bs))) → Appends a c (take (i + n) bs)
Appends-next a b c bs i n first next =
    let rest : Appends b c (take n (drop i bs)) = subst (λ l. Appends b c (take n l)) (take_rest bs i) next in
    subst (Appends a c) (sym (take-add i n bs)) (Appends-trans a b c (take i bs) (take n (drop i bs)) first rest)

-- a front of what is left was given, and none only where none is left
pub drop-given : (bs buf : List ℕ) (i n piece room : ℕ) → 0 < piece → 0 < room → n ≡ min piece (min (length (drop i bs)) room)
    → take n buf ≡ take n (drop i bs)
    → (drop i bs ≡ take n buf ++ drop (i + n) bs) × (n ≡ 0 → 0 < length buf → drop (i + n) bs ≡ [])
drop-given bs buf i n piece room gives some count given = (
  sym (take-append-drop n (drop i bs)) ∙ ap (λ l. l ++ drop n (drop i bs)) (sym given) ∙ ap (λ l. take n buf ++ l) (drop-drop n i bs),
  λ none _. nil_from_length (drop (i + n) bs) (omega (arith, length-drop i bs, length-drop (i + n) bs)),
)
