-- The parts of an IP address.
use Rattle.std.proofs.Common.{◌≡◌, ℕ, suc, ◌+◌, ◌≤◌, Bool, true, false, cond, ltb, List, [], ◌∷◌, length, Option, Some, None, IfSome, take, drop, refl, ap, sym, arith, ◌∙◌}
use Rattle.std.specs.Int.{from_be_bytes, w32}
use Rattle.std.specs.Prelude.{◌-◌, not, option_and_then}
use Rattle.std.specs.List.{slice_split, onto_first, position_or_len, count_by}
use Rattle.std.proofs.lemmas.Bool.{ltb-false, ltb-true, ne_eqb}
use Rattle.std.proofs.lemmas.List.Splits.{slice_split_first, length-slice_split}
use Rattle.mesh_base.specs.Address.{option_both}
use Rattle.mesh_model.specs.Scenario.Terms.{octet, octets_of, number_of, ip_of, ip_of_octets}
use Rattle.mesh_scenario.specs.Inner.Taking.{is_dot}
use Rattle.mesh_scenario.proofs.WordsLemmas.{slice_from}

joined_length : (x : Option ℕ) (y : Option (List ℕ)) (n : ℕ) → IfSome y (λ ns. length ns ≡ n)
    → IfSome (option_both (λ number numbers. number ∷ numbers) x y) (λ ns. length ns ≡ suc n)
joined_length None None n same = tt
joined_length None (Some ns) n same = tt
joined_length (Some m) None n same = tt
joined_length (Some m) (Some ns) n same = omega arith

-- as many numbers as parts
octets_of-length : (parts : List (List ℕ)) → IfSome (octets_of parts) (λ ns. length ns ≡ length parts)
octets_of-length [] = refl
octets_of-length (part ∷ parts) =
    joined_length (option_and_then octet (number_of part)) (octets_of parts) (length parts) (octets_of-length parts)

other_length : (o : Option (List ℕ)) (n : ℕ) → IfSome o (λ ns. length ns ≡ n) → (n ≡ 4 → ⊥)
    → None ≡ option_and_then ip_of_octets o
other_length None n same other = refl
other_length (Some ns) n same other =
    ap (λ b. cond b (Some (from_be_bytes w32 ns)) None)
    (sym (ne_eqb (length ns) 4 (λ four. other (sym same ∙ four))))

-- more than four parts are no address
pub ip_of-long : (word a b c d rest : List ℕ)
    → slice_split is_dot word ≡ a ∷ b ∷ c ∷ d ∷ slice_split is_dot rest → None ≡ ip_of word
ip_of-long word a b c d rest is =
    let more : length (slice_split is_dot rest) ≡ count_by is_dot rest + 1 = length-slice_split is_dot rest in
    let parts : List (List ℕ) = a ∷ b ∷ c ∷ d ∷ slice_split is_dot rest in
    other_length (octets_of parts) _ (octets_of-length parts) (λ (four : length parts ≡ 4). absurd (omega arith))
    ∙ ap (λ ps. option_and_then ip_of_octets (octets_of ps)) (sym is)

-- what a search for the first dot answers
abbrev found_dot : List ℕ → Option ℕ
found_dot text = cond (ltb (position_or_len is_dot text) (length text)) (Some (position_or_len is_dot text)) None

split_at_by : (b : Bool) (text : List ℕ) (offset : ℕ) → ltb (position_or_len is_dot text) (length text) ≡ b
    → Some offset ≡ cond b (Some (position_or_len is_dot text)) None
    → slice_split is_dot text
    ≡ take offset text ∷ slice_split is_dot (take (length text - (offset + 1)) (drop (offset + 1) text))
split_at_by true text offset e found =
    let same : offset ≡ position_or_len is_dot text = cc in
    slice_split_first is_dot text 0 (ltb-true _ _ e)
    ∙ ap (λ p. take p text ∷ slice_split is_dot (drop (p + 1) text)) (sym same)
    ∙ ap (λ rest. take offset text ∷ slice_split is_dot rest) (sym (slice_from text (offset + 1)))
split_at_by false text offset e found = cc

-- a text that is split at its first dot
pub slice_split-at : (text : List ℕ) (offset : ℕ) → Some offset ≡ found_dot text
    → slice_split is_dot text
    ≡ take offset text ∷ slice_split is_dot (take (length text - (offset + 1)) (drop (offset + 1) text))
slice_split-at text offset found = split_at_by (ltb (position_or_len is_dot text) (length text)) text offset refl found

whole_by : (dots : Bool) (b : ℕ) (bs : List ℕ) (n : ℕ) (parts : List (List ℕ))
    → (length bs ≤ n → parts ≡ bs ∷ []) → length (b ∷ bs) ≤ cond (not dots) (1 + n) 0
    → cond dots ([] ∷ parts) (onto_first b parts) ≡ (b ∷ bs) ∷ []
whole_by true b bs n parts one below = absurd (omega arith)
whole_by false b bs n parts one below = ap (onto_first b) (one (omega arith))

split_whole : (text : List ℕ) → length text ≤ position_or_len is_dot text → slice_split is_dot text ≡ text ∷ []
split_whole [] below = refl
split_whole (b ∷ bs) below =
    whole_by (is_dot b) b bs (position_or_len is_dot bs) (slice_split is_dot bs) (split_whole bs) below

none_by : (b : Bool) (n : ℕ) → None ≡ cond b (Some n) None → b ≡ false
none_by true n none = cc
none_by false n none = refl

-- a text without a dot
pub slice_split-whole : (text : List ℕ) → None ≡ found_dot text → slice_split is_dot text ≡ text ∷ []
slice_split-whole text none = split_whole text (ltb-false _ _ (none_by _ _ none))
