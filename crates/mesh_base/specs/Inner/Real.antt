-- What a real input reads from: nothing before it is opened, then standard input or a file. It
-- tells no bytes itself, and what its reader tells passes through it. The main words are
-- `source_left` and `IsOpenAt`.
use Rattle.std.specs.Prelude.{◌≡◌, ℕ, List, [], Option, Some, None, IsSome}
use Rattle.mesh_base.specs.declared.real.Source.{Source}
use Rattle.mesh_base.specs.declared.real.Source.TheVariants.{Nothing, Standard, File}

-- the bytes that a source has left, where its reader tells them
abbrev pub source_left : {I F : Type 0} → (I → Option (List ℕ)) → (F → Option (List ℕ)) → Source I F
    → Option (List ℕ)
source_left input_left file_left Nothing = Some []
source_left input_left file_left (Standard input) = input_left input
source_left input_left file_left (File file) = file_left file

-- a file is open where a name is given, and else standard input
abbrev pub IsOpenAt : {I F : Type 0} → Option (List ℕ) → Source I F → Type 0
IsOpenAt name Nothing = ⊥
IsOpenAt name (Standard input) = name ≡ None
IsOpenAt name (File file) = IsSome name
