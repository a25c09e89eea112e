use Rattle.std.proofs.Common.{◌∙◌, ap, arith}
use Rattle.mesh_algo.proofs.ReaderLemmas.{ogms-le-ticks}
use Rattle.mesh_iv.proofs.answers.IvAlgo.tick.Goals as goal

pub overflow_add-self : goal.overflow_add-self
overflow_add-self c =
    let may = c.requires.3 in
    let sent = ap (λ t. t.sent) c.self.view_is ∙ c.requires.2.sent_is in
    let le = ogms-le-ticks c.requires.1 in
    let few = may.few in
    omega (arith, sent, le, few)
