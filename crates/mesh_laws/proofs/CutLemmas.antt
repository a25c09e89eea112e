-- Lemmas on lines and on how far an input was read.
use Rattle.std.proofs.Common.{◌≡◌, ℕ, ◌+◌, ◌-◌, ◌≤◌, ◌==◌, Bool, true, false, if◌then◌else◌, List, [], ◌∷◌, ◌++◌, length, take, length-append, length-take, refl, sym, ap, ◌∙◌, append_assoc, append-nil, arith}
use Rattle.std.specs.List.{concat, onto_first}
use Rattle.std.specs.Prelude.{filter, not}
use Rattle.std.proofs.lemmas.List.{take_at}
use Rattle.std.proofs.lemmas.List.Elements.{filter-append}
use Rattle.mesh_laws.specs.Cuts.{IsUnbroken, IsLine, AreLines, IsCut}
use Rattle.mesh_model.specs.Run.Halting.{unfinished_line}
use Rattle.mesh_model.specs.Scenario.Lines.{newline, lines_of, is_complete, complete_lines, before_newline, without_carriage_return, content}

-- the line that bytes without a newline are
abbrev pub open_line : List ℕ → List (List ℕ)
open_line [] = []
open_line (b ∷ bs) = (b ∷ bs) ∷ []

pub lines_of-line : (text rest : List ℕ) → IsUnbroken text → lines_of (text ++ newline ∷ rest) ≡ (text ++ newline ∷ []) ∷ lines_of rest
lines_of-line [] rest h = refl
lines_of-line (b ∷ text) rest h = rw (h.0, lines_of-line text rest h.1) refl

pub lines_of-unbroken : (text : List ℕ) → IsUnbroken text → lines_of text ≡ open_line text
lines_of-unbroken [] h = refl
lines_of-unbroken (b ∷ []) h = rw h.0 refl
lines_of-unbroken (b ∷ next ∷ rest) h = rw (h.0, lines_of-unbroken (next ∷ rest) h.1) refl

pub lines_of-line_then : (line rest : List ℕ) → IsLine line → lines_of (line ++ rest) ≡ line ∷ lines_of rest
lines_of-line_then line rest is =
    rw (is.line_is, append_assoc is.text (newline ∷ []) rest) (lines_of-line is.text rest is.unbroken)

pub lines_of-lines_then : (lines : List (List ℕ)) (rest : List ℕ) → AreLines lines → lines_of (concat lines ++ rest) ≡ lines ++ lines_of rest
lines_of-lines_then [] rest are = refl
lines_of-lines_then (line ∷ lines) rest are =
    ap lines_of (append_assoc line (concat lines) rest) ∙ lines_of-line_then line (concat lines ++ rest) are.0
    ∙ ap (λ more. line ∷ more) (lines_of-lines_then lines rest are.1)

pub lines_of-cut : (bytes : List ℕ) (lines : List (List ℕ)) (rest more : List ℕ) → IsCut bytes lines rest → lines_of (bytes ++ more) ≡ lines ++ lines_of (rest ++ more)
lines_of-cut bytes lines rest more cut =
    ap (λ all. lines_of (all ++ more)) cut.bytes_are ∙ ap lines_of (append_assoc (concat lines) rest more)
    ∙ lines_of-lines_then lines (rest ++ more) cut.whole

pub lines_of-cut_end : (bytes : List ℕ) (lines : List (List ℕ)) (rest : List ℕ) → IsCut bytes lines rest → lines_of bytes ≡ lines ++ open_line rest
lines_of-cut_end bytes lines rest cut =
    ap lines_of cut.bytes_are ∙ lines_of-lines_then lines rest cut.whole
    ∙ ap (λ more. lines ++ more) (lines_of-unbroken rest cut.unbroken)

-- ---- whether a line has its newline

is_complete-line : (text : List ℕ) → is_complete (text ++ newline ∷ []) ≡ true
is_complete-line [] = refl
is_complete-line (b ∷ []) = refl
is_complete-line (b ∷ next ∷ rest) = is_complete-line (next ∷ rest)

pub is_complete-IsLine : (line : List ℕ) → IsLine line → is_complete line ≡ true
is_complete-IsLine line is = ap is_complete is.line_is ∙ is_complete-line is.text

pub is_complete-unbroken : (text : List ℕ) → IsUnbroken text → is_complete text ≡ false
is_complete-unbroken [] h = refl
is_complete-unbroken (b ∷ []) h = h.0
is_complete-unbroken (b ∷ next ∷ rest) h = is_complete-unbroken (next ∷ rest) h.1

filter-lines : (lines : List (List ℕ)) → AreLines lines → filter is_complete lines ≡ lines
filter-lines [] are = refl
filter-lines (line ∷ lines) are = rw (is_complete-IsLine line are.0, filter-lines lines are.1) refl

filter-open_line : (text : List ℕ) → IsUnbroken text → filter is_complete (open_line text) ≡ []
filter-open_line [] h = refl
filter-open_line (b ∷ bs) h = rw (is_complete-unbroken (b ∷ bs) h) refl

-- the complete lines of bytes are those before the cut
pub complete_lines-cut : (bytes : List ℕ) (lines : List (List ℕ)) (rest : List ℕ) → IsCut bytes lines rest → complete_lines bytes ≡ lines
complete_lines-cut bytes lines rest cut =
    ap (filter is_complete) (lines_of-cut_end bytes lines rest cut)
    ∙ filter-append is_complete lines (open_line rest)
    ∙ ap (λ more. filter is_complete lines ++ more) (filter-open_line rest cut.unbroken)
    ∙ append-nil (filter is_complete lines) ∙ filter-lines lines cut.whole

filter-unfinished_lines : (lines : List (List ℕ)) → AreLines lines → filter (λ line. not (is_complete line)) lines ≡ []
filter-unfinished_lines [] are = refl
filter-unfinished_lines (line ∷ lines) are = rw (is_complete-IsLine line are.0) (filter-unfinished_lines lines are.1)

unfinished-open_line : (text : List ℕ) → IsUnbroken text → concat (filter (λ line. not (is_complete line)) (open_line text)) ≡ text
unfinished-open_line [] h = refl
unfinished-open_line (b ∷ bs) h = rw (is_complete-unbroken (b ∷ bs) h) (append-nil (b ∷ bs))

-- the unfinished line of bytes is what stands behind the cut
pub unfinished_line-cut : (bytes : List ℕ) (lines : List (List ℕ)) (rest : List ℕ) → IsCut bytes lines rest → unfinished_line bytes ≡ rest
unfinished_line-cut bytes lines rest cut =
    let unfinished = filter (λ line. not (is_complete line)) in
    ap concat
    (ap unfinished (lines_of-cut_end bytes lines rest cut) ∙ filter-append (λ line. not (is_complete line)) lines (open_line rest)
    ∙ ap (λ front. front ++ unfinished (open_line rest)) (filter-unfinished_lines lines cut.whole))
    ∙ unfinished-open_line rest cut.unbroken

-- ---- reading on

IsUnbroken-append : (a b : List ℕ) → IsUnbroken a → IsUnbroken b → IsUnbroken (a ++ b)
IsUnbroken-append [] b p q = q
IsUnbroken-append (x ∷ a) b p q = (p.0, IsUnbroken-append a b p.1 q)

AreLines-append : (a b : List (List ℕ)) → AreLines a → AreLines b → AreLines (a ++ b)
AreLines-append [] b p q = q
AreLines-append (x ∷ a) b p q = (p.0, AreLines-append a b p.1 q)

concat-append : (a b : List (List ℕ)) → concat (a ++ b) ≡ concat a ++ concat b
concat-append [] b = refl
concat-append (x ∷ a) b = ap (λ more. x ++ more) (concat-append a b) ∙ sym (append_assoc x (concat a) (concat b))

-- nothing was read yet
pub IsCut-start : IsCut [] [] []
IsCut-start = record { whole = tt; unbroken = tt; bytes_are = refl }

-- more bytes of the unfinished line
pub IsCut-more : (bytes : List ℕ) (lines : List (List ℕ)) (rest text : List ℕ) → IsCut bytes lines rest → IsUnbroken text → IsCut (bytes ++ text) lines (rest ++ text)
IsCut-more bytes lines rest text cut unbroken = record {
  whole = cut.whole;
  unbroken = IsUnbroken-append rest text cut.unbroken unbroken;
  bytes_are = ap (λ all. all ++ text) cut.bytes_are ∙ append_assoc (concat lines) rest text;
}

-- the newline of the unfinished line
pub IsCut-newline : (bytes : List ℕ) (lines : List (List ℕ)) (rest : List ℕ) → IsCut bytes lines rest → IsCut (bytes ++ newline ∷ []) (lines ++ (rest ++ newline ∷ []) ∷ []) []
IsCut-newline bytes lines rest cut =
    let line = rest ++ newline ∷ [] in
    record {
      whole = AreLines-append lines (line ∷ []) cut.whole (record { text = rest; unbroken = cut.unbroken; line_is = refl }, tt);
      unbroken = tt;
      bytes_are = ap (λ all. all ++ newline ∷ []) cut.bytes_are ∙ append_assoc (concat lines) rest (newline ∷ [])
          ∙ ap (λ more. concat lines ++ more) (sym (append-nil line))
          ∙ sym (concat-append lines (line ∷ [])) ∙ sym (append-nil (concat (lines ++ line ∷ [])));
    }

-- ---- the first line after an unfinished one

-- the lines of bytes that follow an unfinished line, with it
abbrev pub join_first : List ℕ → List (List ℕ) → List (List ℕ)
join_first text [] = open_line text
join_first text (line ∷ lines) = (text ++ line) ∷ lines

onto_first-join : (b : ℕ) (text : List ℕ) (lines : List (List ℕ)) → onto_first b (join_first text lines) ≡ join_first (b ∷ text) lines
onto_first-join b [] [] = refl
onto_first-join b (x ∷ xs) [] = refl
onto_first-join b text (line ∷ lines) = refl

join_first-nil : (lines : List (List ℕ)) → join_first [] lines ≡ lines
join_first-nil [] = refl
join_first-nil (line ∷ lines) = refl

pub lines_of-unbroken_then : (text more : List ℕ) → IsUnbroken text → lines_of (text ++ more) ≡ join_first text (lines_of more)
lines_of-unbroken_then [] more h = sym (join_first-nil (lines_of more))
lines_of-unbroken_then (b ∷ text) more h = rw (h.0, lines_of-unbroken_then text more h.1) (onto_first-join b text (lines_of more))

-- the first line of bytes isn't empty
onto_first-first : (b : ℕ) (lines : List (List ℕ)) → (line : List ℕ) × (rest : List (List ℕ)) × (onto_first b lines ≡ (b ∷ line) ∷ rest)
onto_first-first b [] = ([], [], refl)
onto_first-first b (line ∷ rest) = (line, rest, refl)

first_of-lines : (b : ℕ) (bs : List ℕ) (test : Bool) → (b == newline) ≡ test → (line : List ℕ) × (rest : List (List ℕ)) × (lines_of (b ∷ bs) ≡ (b ∷ line) ∷ rest)
first_of-lines b bs true h = ([], lines_of bs, rw h refl)
first_of-lines b bs false h = let first = onto_first-first b (lines_of bs) in (first.0, first.1, rw h first.2)

pub lines_of-first : (b : ℕ) (bs : List ℕ) → (line : List ℕ) × (rest : List (List ℕ)) × (lines_of (b ∷ bs) ≡ (b ∷ line) ∷ rest)
lines_of-first b bs = first_of-lines b bs (b == newline) refl

-- ---- what stands before a newline

length-take_less : (line : List ℕ) → length (take (length line - 1) line) ≡ length line - 1
length-take_less line = length-take (length line - 1) line ∙ omega arith

-- at most the newline is taken off a line
pub length-before_newline : (line : List ℕ) → length line ≤ length (before_newline line) + 1
length-before_newline line = by_test (is_complete line)
  where
    by_test : (test : Bool) → length line ≤ length (if test then take (length line - 1) line else line) + 1
    by_test true = rw (length-take_less line) (omega arith)
    by_test false = omega arith

take_front : (text : List ℕ) (b : ℕ) → take (length (text ++ b ∷ []) - 1) (text ++ b ∷ []) ≡ text
take_front text b = ap (λ n. take n (text ++ b ∷ [])) (ap (λ n. n - 1) (length-append text (b ∷ [])) ∙ omega arith) ∙ take_at text (b ∷ []) (length text) refl

pub before_newline-line : (text : List ℕ) → before_newline (text ++ newline ∷ []) ≡ text
before_newline-line text = rw (is_complete-line text) (take_front text newline)

pub before_newline-unbroken : (text : List ℕ) → IsUnbroken text → before_newline text ≡ text
before_newline-unbroken text h = rw (is_complete-unbroken text h) refl

pub content-line : (text : List ℕ) → content (text ++ newline ∷ []) ≡ without_carriage_return text
content-line text = rw (is_complete-line text) (ap without_carriage_return (take_front text newline))

pub content-unbroken : (text : List ℕ) → IsUnbroken text → content text ≡ text
content-unbroken text h = rw (is_complete-unbroken text h) refl
