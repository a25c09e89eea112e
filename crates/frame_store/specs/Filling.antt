-- What a chunk is seen as. Bytes fill it from its front, and it holds so many at most.
use Rattle.std.specs.Prelude.{ℕ, List, ◌-◌, length}

-- the bytes that fill a chunk, and how many it holds at most
pub record Filling : Type 0 where
  pub bytes : List ℕ
  pub size : ℕ

-- how many more bytes a chunk holds
abbrev pub rest : Filling → ℕ
rest chunk = chunk.size - length chunk.bytes
