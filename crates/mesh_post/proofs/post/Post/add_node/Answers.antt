use Rattle.mesh_post.proofs.Besides.{step_over}
use Rattle.mesh_post.proofs.JoinLemmas.{rows_kept, ways_kept}
use Rattle.mesh_post.proofs.post.Post.add_node.Goals as goal

pub returns-clause-joins : goal.returns-clause-joins
returns-clause-joins c = λ older last ticks mesh node step.
    let s = step.amid.stands in
    step_over step (rows_kept mesh.nodes node mesh.links c.args.self.now.rows s.rows) s.turns
    (ways_kept mesh.nodes node mesh.links c.args.self.now.rows c.args.self.now.ways.items c.push.new.self.items c.new.result.items c.in_ok-push.ensures.items c.new.ensures.items s.rows s.ways) step.amid.waits
