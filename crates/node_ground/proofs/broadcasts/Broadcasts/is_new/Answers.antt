use Rattle.std.proofs.Common.{◌∙◌}
use Rattle.node_ground.proofs.BroadcastLemmas.{new_by_next}
use Rattle.node_ground.proofs.broadcasts.Broadcasts.is_new.Goals as goal

pub returns : goal.returns
returns c = λ taken stands. c.is_some.ensures ∙ new_by_next c.args.now c.args.number c.args.orig taken c.next.result (c.next.ensures taken stands)
