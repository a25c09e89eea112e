-- Bytes that are printed as hex digits, one after the other.
use Rattle.std.proofs.Common.{◌≡◌, ℕ, ◌+◌, ◌/◌, ◌%◌, ◌<◌, ◌≤◌, List, [], ◌∷◌, ◌++◌, length, drop, slice_index, sym, ap, ◌∙◌, append_assoc}
use Rattle.std.proofs.lemmas.List.{append-nil, drop_all}
use Rattle.hex.specs.Hex.{encode_lower, encode_with, lower_digits}
use Rattle.hex.proofs.Pairs.{encode_with-drop}

-- one byte more is printed
pub digits-more : (old line new bytes : List ℕ) (i high low : ℕ) → i < length bytes
    → high ≡ slice_index lower_digits (slice_index bytes i / 16) → low ≡ slice_index lower_digits (slice_index bytes i % 16)
    → new ≡ line ++ high ∷ low ∷ [] → line ++ encode_lower (drop i bytes) ≡ old ++ encode_lower bytes
    → new ++ encode_lower (drop (i + 1) bytes) ≡ old ++ encode_lower bytes
digits-more old line new bytes i high low within is_high is_low more so_far =
    let rest = encode_lower (drop (i + 1) bytes) in
    let pair : List ℕ = slice_index lower_digits (slice_index bytes i / 16) ∷ slice_index lower_digits (slice_index bytes i % 16) ∷ [] in
    let grown : new ≡ line ++ pair = rw (← is_high, ← is_low) more in
    ap (λ text. text ++ rest) grown ∙ append_assoc line pair rest
    ∙ ap (λ text. line ++ text) (sym (encode_with-drop lower_digits bytes i within)) ∙ so_far

-- all bytes are printed
pub digits-end : (old line bytes : List ℕ) (i : ℕ) → length bytes ≤ i → line ++ encode_lower (drop i bytes) ≡ old ++ encode_lower bytes
    → line ≡ old ++ encode_lower bytes
unfolding encode_with
digits-end old line bytes i all so_far =
    sym (append-nil line) ∙ ap (λ rest. line ++ encode_lower rest) (sym (drop_all i bytes all)) ∙ so_far
