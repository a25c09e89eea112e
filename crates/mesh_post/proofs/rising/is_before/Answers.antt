use Rattle.std.proofs.Common.{ap, ◌∙◌, is_lt}
use Rattle.mesh_post.proofs.QueueLemmas.{same_order}
use Rattle.mesh_post.proofs.rising.is_before.Goals as goal

pub returns : goal.returns
returns c = c.is_lt.ensures ∙ ap is_lt (c.cmp.ensures ∙ same_order c.args.a c.args.b)
