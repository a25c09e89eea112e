use Rattle.mesh_post.proofs.QueueLemmas.{first_key}
use Rattle.mesh_post.proofs.queue.first_of.Goals as goal

pub returns-in-Some : goal.returns-in-Some
returns-in-Some c = first_key c.args.waiting.now.keys c.in-Some.first.now c.in-Some.ensures.first c.in-Some.ensures.all_from
