use Rattle.std.proofs.Common.{◌≡◌, ◌≤◌, filter, length}
use Rattle.std.specs.List.{range_with_len}
use Rattle.mesh_model.specs.Tables.Gathered.{has_records}
use Rattle.tt_global.proofs.gathered.PartBeside.have.Given as goal

abbrev pub invariant-loop-number : goal.invariant-loop-number
invariant-loop-number l =
    (l.have ≡ length (filter (λ n. has_records n l.self) (range_with_len 0 l.number))) × (l.have ≤ l.number)
