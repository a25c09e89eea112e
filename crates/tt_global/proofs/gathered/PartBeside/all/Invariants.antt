use Rattle.std.proofs.Common.{◌≡◌, [], flat_map, unwrap_or}
use Rattle.std.specs.List.{range_with_len}
use Rattle.mesh_model.specs.Tables.Gathered.{records_at}
use Rattle.tt_global.proofs.gathered.PartBeside.all.Given as goal

abbrev pub invariant-loop-number : goal.invariant-loop-number
invariant-loop-number l = l.all ≡ flat_map (λ n. unwrap_or (records_at n l.self) []) (range_with_len 0 l.number)
