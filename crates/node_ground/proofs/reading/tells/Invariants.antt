use Rattle.std.proofs.Common.{◌≡◌, ◌<◌, ℕ, option_map, slice_get}
use Rattle.mesh_tvlv.specs.Translation.{vid_and_sum}
use Rattle.tt_table.specs.Sums.{named_sums}
use Rattle.node_ground.proofs.reading.tells.Given as goal

abbrev pub invariant-loop-i : goal.invariant-loop-i
invariant-loop-i l = (i : ℕ) → i < l.i → option_map vid_and_sum (slice_get l.table.vlans i) ≡ option_map vid_and_sum (slice_get (named_sums l.sums) i)
