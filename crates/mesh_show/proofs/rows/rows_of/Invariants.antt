use Rattle.std.proofs.Common.{◌≡◌, ◌-◌, ℕ, List, Option, length, slice_get, take}
use Rattle.mesh_show.proofs.rows.rows_of.Given as goal

abbrev pub invariant-loop-row : goal.invariant-loop-row
invariant-loop-row g l = goal.F-IsAlwaysCallable g l.row_at
    × ((all : List _) → ((place : ℕ) (answer : Option _) → goal.F-post g l.row_at place answer → answer ≡ slice_get all place)
    → l.rows.items ≡ take (length l.rows.items) all)

abbrev pub decreases-loop-row : goal.decreases-loop-row
decreases-loop-row g l = 18446744073709551616 - length l.rows.items
