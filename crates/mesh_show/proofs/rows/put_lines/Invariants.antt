use Rattle.std.proofs.Common.{◌≡◌, ◌++◌, ℕ, List, OnOk, take}
use Rattle.std.specs.Prelude.{flat_map}
use Rattle.mesh_show.proofs.rows.put_lines.Given as goal

abbrev pub invariant-loop-row : goal.invariant-loop-row
invariant-loop-row g l = goal.F-IsAlwaysCallable g l.put_line
    × ((line : _ → List ℕ)
    → ((old : _) (row : _) (answer : _) (new : _) → goal.F-post g l.put_line old row answer new → OnOk answer (new.now.items ≡ old.now.items ++ line row))
    → l.out.items ≡ l.fn.out.items ++ flat_map line (take l.row-index l.rows))
