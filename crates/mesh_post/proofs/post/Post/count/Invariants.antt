use Rattle.std.proofs.Common.{◌≡◌, ◌+◌, ◌≤◌, length, drop, [], slice_index_or}
use Rattle.std.specs.List.{filter}
use Rattle.mesh_post.specs.Sent.{row_goes, chosen_ways}
use Rattle.mesh_post.proofs.post.Post.count.Given as goal

abbrev pub invariant-loop-i : goal.invariant-loop-i
invariant-loop-i l = record {
  all : l.count + length (filter (row_goes l.self.rows l.to) (drop l.i (slice_index_or l.self.ways.items l.node []))) ≡ length (chosen_ways l.self l.node l.to);
  few : l.count ≤ l.i;
}
