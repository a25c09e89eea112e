-- The lines of an input. A line ends at its newline; a last line without a newline is a line too.
-- What a line says is what stands before its newline, less one carriage return right before it. The
-- main word is `lines_of`.
use Rattle.std.specs.Prelude.{ℕ, ◌-◌, ◌==◌, Bool, false, List, [], ◌∷◌, length, take, drop, filter, bytes_eq, if◌then◌else◌}
use Rattle.std.specs.List.{onto_first}

-- the code of the byte that ends a line
abbrev pub newline : ℕ
newline = 10

-- the code of the byte that may stand before a newline and is dropped with it
abbrev pub carriage_return : ℕ
carriage_return = 13

-- the most bytes before a line's newline, a carriage return counted
abbrev pub line_limit : ℕ
line_limit = 4096

-- the most bytes of an input
abbrev pub input_limit : ℕ
input_limit = 67108864

-- the lines of an input as they stand, each with its newline
abbrev pub lines_of : List ℕ → List (List ℕ)
lines_of [] = []
lines_of (b ∷ bs) = if b == newline then (b ∷ []) ∷ lines_of bs else onto_first b (lines_of bs)

-- whether a line ends at a newline
abbrev pub is_complete : List ℕ → Bool
is_complete [] = false
is_complete (b ∷ []) = b == newline
is_complete (b ∷ next ∷ rest) = is_complete (next ∷ rest)

-- the lines of an input whose newline has come
abbrev pub complete_lines : List ℕ → List (List ℕ)
complete_lines bytes = filter is_complete (lines_of bytes)

-- what stands before a line's newline
abbrev pub before_newline : List ℕ → List ℕ
before_newline line = if is_complete line then take (length line - 1) line else line

-- whether bytes end in a carriage return
abbrev pub ends_in_return : List ℕ → Bool
ends_in_return bytes = bytes_eq (drop (length bytes - 1) bytes) (carriage_return ∷ [])

-- the bytes less a carriage return at their end
abbrev pub without_carriage_return : List ℕ → List ℕ
without_carriage_return bytes =
    if ends_in_return bytes then take (length bytes - 1) bytes else bytes

-- what a line says
abbrev pub content : List ℕ → List ℕ
content line = if is_complete line then without_carriage_return (before_newline line) else line
