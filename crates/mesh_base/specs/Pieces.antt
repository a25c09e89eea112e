-- The pieces in which an input is read. The main word is `piece_limit`.
use Rattle.std.specs.Prelude.{ℕ}

-- the most bytes that one read asks for
abbrev pub piece_limit : ℕ
piece_limit = 4096
