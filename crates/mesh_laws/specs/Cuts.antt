-- How far an input was read: bytes are whole lines, and then what has come of the next one. The
-- main word is `IsCut`.
use Rattle.std.specs.Prelude.{◌≡◌, ℕ, ◌==◌, false, List, [], ◌∷◌, ◌++◌}
use Rattle.std.specs.List.{concat}
use Rattle.mesh_model.specs.Scenario.Lines.{newline}

-- no byte is a newline
abbrev pub IsUnbroken : List ℕ → Type 0
IsUnbroken [] = Unit {0}
IsUnbroken (b ∷ bs) = ((b == newline) ≡ false) × IsUnbroken bs

-- bytes that end at their only newline
pub record IsLine (line : List ℕ) : Type 0 where
  pub text : List ℕ
  pub unbroken : IsUnbroken text
  pub line_is : line ≡ text ++ newline ∷ []

-- each is a line that ends at its newline
abbrev pub AreLines : List (List ℕ) → Type 0
AreLines [] = Unit {0}
AreLines (line ∷ lines) = IsLine line × AreLines lines

-- the bytes are these lines, and then an unfinished one
pub record IsCut (bytes : List ℕ) (lines : List (List ℕ)) (rest : List ℕ) : Type 0 where
  pub whole : AreLines lines
  pub unbroken : IsUnbroken rest
  pub bytes_are : bytes ≡ concat lines ++ rest
