-- Sequence numbers that were seen. A window of them is those that are less than 64 below the
-- greatest, in rising order and each once. A number is far from the greatest where it is 64 or more
-- below it, or 65,536 or more above; with it that may begin anew to which the numbers belong, but
-- not within 30,000 ms after such a beginning. The main words are `window` and `is_far`.
use Rattle.std.specs.Prelude.{ℕ, zero, suc, ◌+◌, ◌-◌, ◌&&◌, ◌||◌, nat_eq, nat_le, max, Bool, true, List, [], ◌∷◌, Option, if◌then◌else◌}
use Rattle.std.specs.List.{list_any}
use Rattle.std.specs.Option.{option_map_or}

-- whether a number was seen
abbrev pub has : ℕ → List ℕ → Bool
has number seen = list_any (nat_eq number) seen

-- the greatest number seen, 0 where there is none
abbrev pub greatest : List ℕ → ℕ
greatest [] = 0
greatest (number ∷ seen) = max number (greatest seen)

-- those of the `count` numbers up to `top` that pass a test, in rising order
unfoldable pub among : ℕ → ℕ → (ℕ → Bool) → List ℕ
among top zero passes = []
among top (suc count) passes =
    if nat_le count top && passes (top - count) then (top - count) ∷ among top count passes
    else among top count passes

-- those of the `count` numbers up to `top` that were seen, in rising order
abbrev pub seen_among : ℕ → ℕ → List ℕ → List ℕ
seen_among top count seen = among top count (λ number. has number seen)

-- how many numbers a window reaches back, its greatest counted
abbrev pub window_length : ℕ
window_length = 64

-- the numbers seen that are less than 64 below the greatest
unfoldable pub window : List ℕ → List ℕ
window seen = seen_among (greatest seen) window_length seen

-- how much above the greatest a number is far from it
abbrev pub far_above : ℕ
far_above = 65536

-- whether a number is far from the greatest
abbrev pub is_far : (number greatest : ℕ) → Bool
is_far number greatest =
    nat_le (number + window_length) greatest || nat_le (greatest + far_above) number

-- how long after a beginning with a far number there is no other, in milliseconds
abbrev pub restart_pause : ℕ
restart_pause = 30000

-- whether there may be a beginning with a far number at a moment, by when there last was one
abbrev pub may_begin : ℕ → Option ℕ → Bool
may_begin moment last = option_map_or (λ began. nat_le restart_pause (moment - began)) last true
