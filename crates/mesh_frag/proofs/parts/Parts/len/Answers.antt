use Rattle.std.proofs.Common.{◌≤◌, arith, length}
use Rattle.mesh_frag.proofs.PartLemmas.{few_places}
use Rattle.mesh_frag.proofs.parts.Parts.len.Goals as goal

pub overflow_cast-result : goal.overflow_cast-result
overflow_cast-result c =
    let few : length c.self.inside.tails.entries ≤ 256 = few_places c.self.inside.tails.entries c.self.invariant c.len.ensures.unique in
    omega arith
