use Rattle.std.proofs.Common.{◌∙◌, ap, arith}
use Rattle.mesh_algo.proofs.ReaderLemmas.{ogms-le-ticks}
use Rattle.mesh_v.proofs.answers.VAlgo.tick.Goals as goal

pub overflow_add-self-2 : goal.overflow_add-self-2
overflow_add-self-2 c =
    let may = c.requires.3 in
    let ogms = ap (λ t. t.ogms) c.self.view_is ∙ c.requires.2.ogms_are in
    let le = ogms-le-ticks c.requires.1 in
    let few = may.few in
    omega (arith, ogms, le, few)
