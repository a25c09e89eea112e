-- How the words of a line begin.
use Rattle.std.proofs.Common.{◌≡◌, ℕ, suc, ◌+◌, ◌-◌, ◌<◌, ◌≤◌, Bool, true, false, cond, ltb, List, [], ◌∷◌, length, take, drop, refl, ap, sym, subst, arith, ◌∙◌, get_or, drop_of_length-le}
use Rattle.std.specs.Prelude.{not, map, ◌==◌, Option, Some, None, unwrap_or}
use Rattle.std.specs.List.{position_or_len}
use Rattle.std.proofs.lemmas.Bool.{not-true, eqb-true, eqb-false, ltb-false}
use Rattle.std.proofs.lemmas.Grind.{common_steps}
use Rattle.std.proofs.lemmas.List.{drop_more, length-drop}
use Rattle.std.proofs.lemmas.List.Sums.{passes_at_first, prefix_len-le-length}
use Rattle.mesh_scenario.specs.Inner.Taking.{is_in_word}
use Rattle.mesh_model.specs.Scenario.Words.{Word, is_separator, word_at, word_tails, line_words}

-- the tails that begin a word, by whether the first byte is a separator
abbrev tails_by : Bool → Bool → ℕ → List ℕ → List (List ℕ)
tails_by separates in_word b bs =
    cond separates (word_tails false bs) (cond in_word (word_tails true bs) ((b ∷ bs) ∷ word_tails true bs))

-- one step further
abbrev count_by_first : Bool → ℕ → ℕ
count_by_first goes_on n = cond goes_on (1 + n) 0

skip_by : (s : Bool) (b : ℕ) (bs : List ℕ) (n : ℕ) → is_separator b ≡ s
    → word_tails false bs ≡ word_tails false (drop n bs)
    → tails_by s false b bs ≡ word_tails false (drop (count_by_first (not (not s)) n) (b ∷ bs))
skip_by true b bs n e more =
    let k : 1 + n ≡ suc n = omega arith in more ∙ ap (λ i. word_tails false (drop i (b ∷ bs))) (sym k)
skip_by false b bs n e more = ap (λ s. tails_by s false b bs) (sym e)

-- separators before the first word are no part of any
pub word_tails-skip : (line : List ℕ) → word_tails false line ≡ word_tails false (drop (position_or_len is_in_word line) line)
word_tails-skip [] = refl
word_tails-skip (b ∷ bs) = skip_by (is_separator b) b bs (position_or_len is_in_word bs) refl (word_tails-skip bs)

pass_by : (s : Bool) (b : ℕ) (bs : List ℕ) (n : ℕ) → is_separator b ≡ s
    → word_tails true bs ≡ word_tails false (drop n bs)
    → tails_by s true b bs ≡ word_tails false (drop (count_by_first (not s) n) (b ∷ bs))
pass_by true b bs n e more = ap (λ s. tails_by s false b bs) (sym e)
pass_by false b bs n e more =
    let k : 1 + n ≡ suc n = omega arith in more ∙ ap (λ i. word_tails false (drop i (b ∷ bs))) (sym k)

-- the bytes of a word begin no further one
pub word_tails-pass : (line : List ℕ) → word_tails true line ≡ word_tails false (drop (position_or_len is_separator line) line)
word_tails-pass [] = refl
word_tails-pass (b ∷ bs) = pass_by (is_separator b) b bs (position_or_len is_separator bs) refl (word_tails-pass bs)

-- a rest of a line that begins with a word has that word first, and then those behind it
line_words-begin : (b : ℕ) (bs : List ℕ) → is_separator b ≡ false
    → line_words (b ∷ bs) ≡ word_at (b ∷ bs) ∷ line_words (drop (position_or_len is_separator (b ∷ bs)) (b ∷ bs))
line_words-begin b bs e =
    ap (λ s. map word_at (tails_by s false b bs)) e
    ∙ ap (λ tails. word_at (b ∷ bs) ∷ map word_at tails)
    (sym (ap (λ s. tails_by s true b bs) e) ∙ word_tails-pass (b ∷ bs))

-- a line whose first word begins at n
line_words-at : (line : List ℕ) (n : ℕ) → n ≡ position_or_len is_in_word line → n < length line
    → line_words line ≡ word_at (drop n line) ∷ line_words (drop (position_or_len is_separator (drop n line)) (drop n line))
line_words-at line n is below =
    let first : ℕ = get_or line n 0 in
    let at : drop n line ≡ first ∷ drop (n + 1) line = drop_more line n 0 below in
    let in_word : is_in_word first ≡ true =
    ap (λ k. is_in_word (get_or line k 0)) is ∙ passes_at_first is_in_word line 0 (omega arith) in
    ap (map word_at) (word_tails-skip line ∙ ap (λ k. word_tails false (drop k line)) (sym is))
    ∙ subst (λ text. line_words text ≡ word_at text ∷ line_words (drop (position_or_len is_separator text) text)) (sym at)
    (line_words-begin first (drop (n + 1) line) (not-true (is_separator first) in_word))

-- the part of a line behind its first n bytes, as a slice of it
pub slice_from : (line : List ℕ) (n : ℕ) → take (length line - n) (drop n line) ≡ drop n line
slice_from line n = grind (arith, common_steps)

-- the words of a line from its first word on
pub line_words-some : (words : List Word) (line word rest : List ℕ) (n m : ℕ) → words ≡ line_words line
    → n ≡ position_or_len is_in_word line
    → let text = take (length line - n) (drop n line) in (length text == 0) ≡ false
    → m ≡ position_or_len is_separator text → word ≡ take m text → rest ≡ drop m text
    → words ≡ record { word = word; text = text } ∷ line_words rest
line_words-some words line word rest n m whole starts some ends front back =
    let text : List ℕ = take (length line - n) (drop n line) in
    let same : text ≡ drop n line = slice_from line n in
    let below : n < length line = omega (arith, eqb-false _ _ some, ap length same, length-drop n line) in
    whole ∙ line_words-at line n starts below
    ∙ ap (λ t. word_at t ∷ line_words (drop (position_or_len is_separator t) t)) (sym same)
    ∙ cc

-- a line without bytes of words
pub line_words-none : (words : List Word) (line : List ℕ) (n : ℕ) → words ≡ line_words line
    → n ≡ position_or_len is_in_word line → (length (take (length line - n) (drop n line)) == 0) ≡ true → words ≡ []
line_words-none words line n whole starts none =
    let below : length line ≤ n =
    omega (arith, eqb-true _ _ none, ap length (slice_from line n), length-drop n line) in
    whole ∙ ap (map word_at) (word_tails-skip line ∙ ap (λ k. word_tails false (drop k line)) (sym starts)
    ∙ ap (word_tails false) (drop_of_length-le line below))

-- the first place that passes, or the length, from what a search for it answers
pub unwrap_or-position : (p : ℕ → Bool) (xs : List ℕ) (found : Option ℕ)
    → found ≡ cond (ltb (position_or_len p xs) (length xs)) (Some (position_or_len p xs)) None
    → unwrap_or found (length xs) ≡ position_or_len p xs
unwrap_or-position p xs found is =
    let within : position_or_len p xs ≤ length xs = prefix_len-le-length (λ x. not (p x)) xs in
    ap (λ o. unwrap_or o (length xs)) is ∙ by (ltb (position_or_len p xs) (length xs)) refl within
  where
    by : (b : Bool) → ltb (position_or_len p xs) (length xs) ≡ b → position_or_len p xs ≤ length xs
        → unwrap_or (cond b (Some (position_or_len p xs)) None) (length xs) ≡ position_or_len p xs
    by true e within = refl
    by false e within = omega (arith, ltb-false _ _ e)
