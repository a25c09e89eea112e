-- The marks of a link's frames. The main word is `marks_in`.
use Rattle.std.specs.Prelude.{ℕ, List, [], ◌∷◌}
use Rattle.mesh_post.specs.declared.pattern.Marks.{Marks}
use Rattle.mesh_post.specs.declared.pattern.Marks.TheVariants.{One, Others}

-- the marks of a pattern
abbrev pub marks_in : Marks → List ℕ
marks_in (One mark) = mark ∷ []
marks_in (Others marks) = marks
