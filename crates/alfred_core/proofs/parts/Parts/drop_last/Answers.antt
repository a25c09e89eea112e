use Rattle.std.proofs.Common.{subst}
use Rattle.alfred_core.specs.Kept.{ArePartsWithout}
use Rattle.alfred_core.proofs.PartLemmas.{fewer}
use Rattle.alfred_core.proofs.parts.Parts.drop_last.Goals as goal

pub invariant_of-self : goal.invariant_of-self
invariant_of-self c =
    fewer c.pop.new.self.entries _ c.self.inside.missing
    (subst (λ kept. ArePartsWithout kept c.self.inside.missing) c.pop.ensures.entries c.self.invariant)
