use Rattle.std.proofs.Common.{sym, ◌∙◌, arith, slice_index_or, [], true, false}
use Rattle.mesh_post.specs.Sent.{row_goes}
use Rattle.mesh_post.proofs.Chosen.{chosen_count}
use Rattle.mesh_post.proofs.post.Post.count.Goals.{then-is_some, else-is_some}
use Rattle.mesh_post.proofs.post.Post.count.Goals as goal

pub loop-i-preserved : goal.loop-i-preserved
loop-i-preserved c = elim c.if-is_some.branch [
  | then-is_some w ↦
      let k = chosen_count (row_goes c.args.self.now.rows c.args.to) (slice_index_or c.args.self.now.ways.items c.args.node []) c.loop-i.i c.chosen_at.result true c.chosen_at.ensures (sym c.is_some.ensures ∙ w.if-is_some.true) in
      let all = c.loop-i.invariant.all in
      let few = c.loop-i.invariant.few in
      let n = w.count-is in
      record { all = omega (arith, k, all, n); few = omega (arith, few, n) }
  | else-is_some w ↦
      let k = chosen_count (row_goes c.args.self.now.rows c.args.to) (slice_index_or c.args.self.now.ways.items c.args.node []) c.loop-i.i c.chosen_at.result false c.chosen_at.ensures (sym c.is_some.ensures ∙ w.if-is_some.false) in
      let all = c.loop-i.invariant.all in
      let few = c.loop-i.invariant.few in
      let n = w.count-is in
      record { all = omega (arith, k, all, n); few = omega (arith, few, n) }
]
