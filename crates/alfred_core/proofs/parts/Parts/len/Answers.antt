use Rattle.std.proofs.Common.{◌≤◌, arith, length}
use Rattle.alfred_core.proofs.PartLemmas.{few_kept}
use Rattle.alfred_core.proofs.parts.Parts.len.Goals as goal

pub overflow_cast-result : goal.overflow_cast-result
overflow_cast-result c =
    let few : length c.self.inside.kept.entries ≤ 65536 = few_kept c.self.inside.kept.entries c.self.inside.missing c.self.invariant c.len.ensures.unique in
    omega arith
