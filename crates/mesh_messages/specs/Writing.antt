-- What the steps of writing ask. No public clause cites this module.
use Rattle.std.specs.Prelude.{ℕ, ◌+◌, ◌≤◌}
use Rattle.std.specs.Global.{Vec}
use Rattle.std.specs.Vec.{vec_len, vec_capacity}

-- the list has room for so many more bytes
abbrev pub HasRoom : Vec ℕ → ℕ → Type 0
HasRoom list more = vec_len list + more ≤ vec_capacity list
