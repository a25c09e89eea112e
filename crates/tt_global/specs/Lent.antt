-- What is lent. No public clause cites this file.
use Rattle.std.specs.Prelude.{Option, option_map}
use Rattle.std.specs.Borrow.{Bor}

-- what is lent, as a value
abbrev pub lent : {X : Type 0} → Option (Bor X) → Option X
lent given = option_map (λ reference. reference.now) given
