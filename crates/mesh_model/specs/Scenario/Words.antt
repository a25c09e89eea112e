-- The words of a line: the longest parts without spaces and tabs. Each word comes with the rest of
-- the line from its first byte on, since a form may end in a text that is the rest of its line. The
-- main word is `line_words`.
use Rattle.std.specs.Prelude.{ℕ, ◌==◌, ◌||◌, Bool, true, false, not, List, [], ◌∷◌, map, take_while, if◌then◌else◌}

-- a word and the rest of its line
pub record Word : Type 0 where
  pub word : List ℕ
  pub text : List ℕ

-- the code of a space
abbrev pub space : ℕ
space = 32

-- the code of a tab
abbrev pub tab : ℕ
tab = 9

-- a byte that stands between words: a space or a tab
abbrev pub is_separator : ℕ → Bool
is_separator byte = (byte == space) || (byte == tab)

-- the rests of a line that begin a word, where the byte before the line is in a word or isn't
abbrev pub word_tails : Bool → List ℕ → List (List ℕ)
word_tails in_word [] = []
word_tails in_word (b ∷ bs) =
    if is_separator b then word_tails false bs
    else if in_word then word_tails true bs
    else (b ∷ bs) ∷ word_tails true bs

-- the word that a rest of a line begins
abbrev pub word_at : List ℕ → Word
word_at tail = record { word = take_while (λ b. not (is_separator b)) tail; text = tail }

-- the words of a line
abbrev pub line_words : List ℕ → List Word
line_words line = map word_at (word_tails false line)
